use Prim.Native.Nat.{◌≤◌}
use Rattle.parity.specs.Calls.{between}
use Rattle.parity.proofs.Restores.{Restored}
use Rattle.parity.proofs.restoring.restore_range.Given as goal

abbrev pub invariant-loop-o : goal.invariant-loop-o
invariant-loop-o l = (l.from ≤ l.o) × (l.o ≤ l.to) × Restored l.checked.shelf.now l.initial.image (between l.checked.shelf.now l.from l.o) l.image
