use Prim.Native.Nat.{◌+◌, ◌≤◌}
use lib.ListN.{length}
use Rattle.parity.specs.Units.{zeros}
use Rattle.parity.specs.inner.Blocks.{numbered}
use Rattle.parity.proofs.StripeSums.{StripeSum}
use Rattle.parity.proofs.whole.restore.Given as goal

abbrev pub invariant-loop-from : goal.invariant-loop-from
invariant-loop-from l =
    (l.from-index ≤ length l.from-items)
    × StripeSum l.size (numbered l.numbers) (length l.numbers) l.i l.i (zeros l.size) l.to l.initial.image l.image (l.begun + l.from-index)
