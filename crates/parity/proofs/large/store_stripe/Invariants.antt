use mathlib.Core.Path.{◌≡◌}
use Rattle.parity.specs.Stripe.{unit_size}
use Rattle.parity.proofs.Chunks.{Left}
use Rattle.parity.proofs.StripeTurns.{Begun}
use Rattle.parity.proofs.large.store_stripe.Given as goal

abbrev pub invariant-loop-i : goal.invariant-loop-i
invariant-loop-i l =
    (l.i-iterator.iter.size ≡ unit_size l.checked.shelf.now)
    × Left (unit_size l.checked.shelf.now) l.buffer l.i-iterator.count l.i-iterator.iter.rest.now
    × Begun l.checked.shelf.now l.initial.image l.s l.buffer l.i-iterator.count l.image l.written
