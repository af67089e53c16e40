-- `parity::showing::part` meets its contract: the unit is within the image. Assumes nothing.
use mathlib.Core.Path.{ap₂, ◌∙◌}
use Prim.Native.Nat.{ℕ, ◌+◌, ◌*◌, ◌^◌, ◌≤◌, ◌<◌}
use native.Mathlib.Omega.{arith}
use lib.Arith.{digits_lt}
use lib.ListN.{length}
use Rattle.parity.specs.Units.{unit_at}
use Rattle.parity.specs.Stripe.{unit_size, units}
use Rattle.parity.proofs.Image.{unit_fits}
use Rattle.parity.proofs.Put.{part-unit}
use Rattle.parity.proofs.Sized.{image_size_most}
use Rattle.parity.proofs.showing.part.Goals as goal
use Rattle.parity.proofs.showing.part.Goals.{After-unit_at}

-- the place is a unit of the image
here : (c : After-unit_at) → c.unit_at.result < units c.args.checked.shelf.now
here c = rw c.unit_at.ensures (digits_lt c.requires.place.0 c.requires.place.1)

fits : (c : After-unit_at) → c.unit_at.result * c.unit_size-size.result + c.unit_size-size.result ≤ length c.args.image.now
fits c =
    rw c.unit_size-size.ensures (unit_fits (unit_size c.args.checked.shelf.now) (units c.args.checked.shelf.now) c.args.image.now c.requires.size _ (here c))

most : (c : After-unit_at) → length c.args.image.now ≤ 2 ^ 45
most c = omega (arith, c.requires.size, image_size_most _ c.args.checked.passed)

pub unit_at-requires : goal.unit_at-requires
unit_at-requires c = c.requires.place

pub overflow_mul-at : goal.overflow_mul-at
overflow_mul-at c = omega (arith, fits c, most c)

pub overflow_add-result : goal.overflow_add-result
overflow_add-result c = omega (arith, fits c, most c)

pub slice_bounds-result-end : goal.slice_bounds-result-end
slice_bounds-result-end c = omega (arith, fits c)

pub returns : goal.returns
returns c =
    part-unit c.unit_size-size.result c.args.image.now c.unit_at.result
    ∙ ap₂ (λ (U n : ℕ). unit_at U c.args.image.now n) c.unit_size-size.ensures c.unit_at.ensures
