-- `parity::storing::standing_of` meets its contract: a place is a number by the region of its disk. Assumes nothing.
use Prim.Native.Nat.{◌≤◌}
use native.Mathlib.Omega.{arith}
use Rattle.design.proofs.ShelfTests.{shelf_parts}
use Rattle.parity.specs.inner.Shapes.{standing_in}
use Rattle.parity.proofs.Spots.{spot-unit, spot_place, spot-parity, parity_place}
use Rattle.parity.proofs.storing.standing_of.Goals as goal
use Rattle.parity.proofs.storing.standing_of.Goals.{Start}

two : (c : Start) → 2 ≤ c.args.checked.shelf.now.k
two c = (shelf_parts _ c.args.checked.passed).limits.k_least

pub unit_at-requires : goal.unit_at-requires
unit_at-requires c =
    rw c.spot-spot.ensures (spot_place _ c.args.checked.passed _ c.requires)

pub unit_at-requires-2 : goal.unit_at-requires-2
unit_at-requires-2 c =
    rw c.spot-spot.ensures (parity_place _ c.args.checked.passed _ c.requires)

pub returns : goal.returns
unfolding standing_in
returns c =
    rw (c.unit_at.ensures, c.unit_at-2.ensures)
    (rw c.spot-spot.ensures (rw (spot-unit _ c.args.checked.passed _ c.requires, spot-parity _ c.args.checked.passed _ c.requires)))

pub overflow_sub-count : goal.overflow_sub-count
overflow_sub-count c = omega (arith, two (goal.at.overflow_sub-count c).Start)

pub nonzero_div-result : goal.nonzero_div-result
nonzero_div-result c = omega (arith, two (goal.at.nonzero_div-result c).Start)

pub nonzero_rem-result : goal.nonzero_rem-result
nonzero_rem-result c = omega (arith, two (goal.at.nonzero_rem-result c).Start)
