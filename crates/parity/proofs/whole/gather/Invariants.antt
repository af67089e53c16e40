use Prim.Native.Nat.{◌≤◌}
use lib.ListN.{length}
use Rattle.parity.specs.inner.Blocks.{numbered}
use Rattle.parity.proofs.Rest.{Gathered}
use Rattle.parity.proofs.whole.gather.Given as goal

abbrev pub invariant-loop-j : goal.invariant-loop-j
invariant-loop-j l = (l.j ≤ length l.numbers) × Gathered (length l.fn.unit) l.row (numbered l.numbers) l.i l.unit l.j
