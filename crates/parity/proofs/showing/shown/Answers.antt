-- `parity::showing::shown` meets its contract: the place of the address is its unit's. Assumes nothing.
use mathlib.Core.Path.{◌≡◌, sym, ap, ◌∙◌}
use Prim.Native.Nat.{◌+◌, ◌*◌}
use Rattle.placement.specs.declared.Spot.{Spot}
use Rattle.placement.specs.Layout.{layout_in, stripe_of, j_of}
use Rattle.parity.specs.Units.{unit_at}
use Rattle.parity.specs.Stripe.{unit_size, depth, unit_in, present, cell}
use Rattle.parity.proofs.Spots.{spot-unit, spot_place}
use Rattle.parity.proofs.showing.shown.Goals as goal
use Rattle.parity.proofs.showing.shown.Goals.{After-is_present, After-spot-spot}

pub spot-spot-requires : goal.spot-spot-requires
spot-spot-requires c = c.requires.address

pub unit_at-n-requires : goal.unit_at-n-requires
unit_at-n-requires c =
    rw c.spot-spot.ensures (spot_place _ c.args.checked.passed _ c.requires.address)

-- what stands at the place is the unit of the address
place_is : (c : After-spot-spot) → let a = c.args in
    c.spot-spot.result.disk * depth a.checked.shelf.now + c.spot-spot.result.offset ≡ unit_in a.checked.shelf.now (stripe_of (layout_in a.checked.shelf.now) a.address) (j_of (layout_in a.checked.shelf.now) a.address)
place_is c =
    ap (λ (x : Spot). x.disk * depth c.args.checked.shelf.now + x.offset) c.spot-spot.ensures ∙ spot-unit _ c.args.checked.passed _ c.requires.address

there : (c : After-is_present) → let a = c.args in
    present a.checked.shelf.now (unit_in a.checked.shelf.now (stripe_of (layout_in a.checked.shelf.now) a.address) (j_of (layout_in a.checked.shelf.now) a.address)) ≡ c.is_present.result
there c =
    let h = c.args.checked.shelf.now in
    sym (c.is_present.ensures ∙ ap (present h) (c.unit_at-n.ensures ∙ place_is (goal.at.After-is_present c).After-spot-spot))

pub part-requires : goal.part-requires
part-requires c =
    record { size = c.requires.stored.size; place = rw c.spot-spot.ensures (spot_place _ c.args.checked.passed _ c.requires.address) }

pub returns-then-is_present : goal.returns-then-is_present
unfolding cell
returns-then-is_present c =
    rw (there (goal.at.returns-then-is_present c).After-is_present ∙ c.if-is_present.true)
    (c.part.ensures ∙ ap (unit_at (unit_size c.args.checked.shelf.now) c.args.image.now) (place_is (goal.at.returns-then-is_present c).After-spot-spot))

pub returns : goal.returns
returns c = rw (there (goal.at.returns c).After-is_present ∙ c.if-is_present.false)
