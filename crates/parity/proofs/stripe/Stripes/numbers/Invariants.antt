use mathlib.Core.Path.{◌≡◌}
use Prim.Native.Nat.{◌≤◌}
use lib.ListN.{length}
use Rattle.parity.specs.Stripe.{unit_in}
use Rattle.parity.specs.inner.Blocks.{Listed}
use Rattle.parity.proofs.stripe.Stripes.numbers.Given as goal

abbrev pub invariant-loop-i : goal.invariant-loop-i
invariant-loop-i l = (l.i ≤ l.self.checked.shelf.now.k) × (length l.number-items ≡ l.self.checked.shelf.now.k) × Listed l.number-items (unit_in l.self.checked.shelf.now l.s) l.i
