use Prim.Native.Nat.{◌≤◌}
use lib.ListN.{length}
use Rattle.parity.specs.inner.Blocks.{numbered}
use Rattle.parity.proofs.StripeSums.{StripeSum}
use Rattle.parity.proofs.whole.reparity.Given as goal

abbrev pub invariant-loop-i : goal.invariant-loop-i
invariant-loop-i l = (l.i ≤ l.parity) × StripeSum (length l.unit) (numbered l.numbers) (length l.numbers) l.parity l.j l.unit l.to l.initial.image l.image l.i
