use mathlib.Core.Path.{◌≡◌}
use lib.ListN.{length}
use Rattle.parity.specs.Stripe.{unit_size}
use Rattle.parity.proofs.Searching.{Searched}
use Rattle.parity.proofs.checking.count_wrong.Given as goal

abbrev pub invariant-loop-s : goal.invariant-loop-s
invariant-loop-s l = (length l.sum ≡ unit_size l.checked.shelf.now) × Searched l.checked.shelf.now l.image l.s l.wrong
