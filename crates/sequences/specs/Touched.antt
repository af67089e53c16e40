-- Which units of the image an event may change (document 01, "The shelf value and the calls").
use Rattle.std.specs.Prelude.{◌≡◌, Bool, false, not, ◌&&◌, ◌||◌, ℕ, ◌-◌, ◌/◌, ◌<◌, eqb, length, get_or}
use Rattle.std.specs.Prelude.{Ok, Err}
use Rattle.design.specs.declared.Refusal.{Refusal}
use Rattle.design.specs.declared.Shelf.{Shelf}
use Rattle.design.specs.Refusals.{Verdict, verdict}
use Rattle.design.specs.Loss.{with_loss}
use Rattle.placement.specs.Layout.{layout_in, stripe_of, j_of}
use Rattle.parity.specs.Stripe.{unit_size, unit_in, stripe_here, present}
use Rattle.parity.specs.Calls.{by}
use Rattle.sequences.specs.Sequence.{Event, write, write_stripe, lose, rebuild, look, disturb, State}
use Rattle.sequences.specs.Lost.{loss_by}

-- unit n of the image, on shelf h: an accepted unit write changes its data and the parity, an accepted stripe write the units
-- of its stripe, what is on the lost disk left out; an accepted rebuild changes the lost disk, and so may that disk itself
unfoldable pub may_change : Shelf → Event → ℕ → Bool
may_change h (write a unit answer) n =
    let s : ℕ = stripe_of (layout_in h) a in
    by (verdict answer) ((eqb n (unit_in h s (j_of (layout_in h) a)) || eqb n (unit_in h s (h.k - 1))) && present h n) false
may_change h (write_stripe s buffer answer) n = by (verdict answer) (eqb (stripe_here h n) s && present h n) false
may_change h (lose d answer) n = false
may_change h (rebuild answer) n = by (verdict answer) (not (present h n)) false
may_change h (look call) n = false
may_change h disturb n = not (present h n)

-- the verdict of a call that may change something
unfoldable pub verdict_of : Event → Verdict
verdict_of (write a unit answer) = verdict answer
verdict_of (write_stripe s buffer answer) = verdict answer
verdict_of (lose d answer) = verdict answer
verdict_of (rebuild answer) = verdict answer
verdict_of (look call) = Ok tt
verdict_of disturb = Ok tt

-- what an event from x to y leaves alone: of the shelf all but the lost disk, of the image every byte that it may not change,
-- and all, if the call is refused
pub record Spared (x : State) (e : Event) (y : State) : Type 0 where
  pub shelf : y.shelf ≡ with_loss x.shelf (loss_by e x.shelf.loss)
  pub size : length y.image ≡ length x.image
  pub bytes : (i : ℕ) → i < length x.image → may_change x.shelf e (i / unit_size x.shelf) ≡ false
      → get_or y.image i 0 ≡ get_or x.image i 0
  pub refused : (r : Refusal) → verdict_of e ≡ Err r → y ≡ x
