use Prim.Native.Nat.{◌≤◌}
use Rattle.parity.proofs.ReadCounts.{Filled}
use Rattle.parity.proofs.restoring.counts.Given as goal

abbrev pub invariant-loop-e : goal.invariant-loop-e
invariant-loop-e l = (l.e ≤ l.checked.shelf.now.v) × Filled l.each l.checked.shelf.now.loss l.checked.shelf.now.v l.e l.count-items
