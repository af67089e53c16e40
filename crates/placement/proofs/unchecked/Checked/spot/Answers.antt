-- `placement::unchecked::Checked::spot` meets its contract: the places are those of the data's position and of the parity's. Assumes nothing.
use native.Mathlib.Omega.{arith}
use mathlib.Core.Path.{◌≡◌, ap, ◌∙◌}
use Prim.Native.Nat.{ℕ}
use Rattle.placement.specs.Slots.{position_of}
use Rattle.placement.specs.Layout.{Layout, layout_in, stripe_of, j_of, parity_of, SplitIn, place_of}
use Rattle.placement.specs.Placed.{spot_of}
use Rattle.placement.proofs.Even.{Even, even_shelf}
use Rattle.placement.proofs.Position.{parity-lt, position-lt}
use Rattle.placement.proofs.Stands.{j-lt, stripe_below}
use Rattle.placement.proofs.Bounds.{bounds}
use Rattle.placement.proofs.Splits.{split_asks, split_of_in, split-parity, split_place}
use Rattle.placement.proofs.unchecked.Checked.spot.Goals as goal
use Rattle.placement.proofs.unchecked.Checked.spot.Goals.{After-position_of-position, After-split_of-at, Start}

-- ---- the layout, and the stripe and the data of the address
abbrev L : Start → Layout
L s = layout_in s.args.self.shelf.now

E : (s : Start) → Even (L s)
E s = even_shelf s.args.self.shelf.now s.args.self.passed

abbrev stripe : Start → ℕ
stripe s = stripe_of (L s) s.args.address

abbrev j : Start → ℕ
j s = j_of (L s) s.args.address

-- ---- the split and the positions
split_is : (c : After-split_of-at) → SplitIn (L (goal.at.After-split_of-at c).Start) c.split_of-at.result
split_is c =
    split_of_in c.args.self.shelf.now c.args.self.passed ((stripe_below (L (goal.at.After-split_of-at c).Start) (E (goal.at.After-split_of-at c).Start) c.args.address).1 c.requires) c.split_of-at.ensures

parity_is : (c : After-split_of-at) → c.split_of-at.result.parity ≡ parity_of (L (goal.at.After-split_of-at c).Start) (stripe (goal.at.After-split_of-at c).Start)
parity_is c = split-parity (L (goal.at.After-split_of-at c).Start) (stripe (goal.at.After-split_of-at c).Start) c.split_of-at.ensures

position_is : (c : After-position_of-position) → c.position_of-position.result ≡ position_of (parity_of (L (goal.at.After-position_of-position c).Start) (stripe (goal.at.After-position_of-position c).Start)) (j (goal.at.After-position_of-position c).Start)
position_is c = c.position_of-position.ensures ∙ ap (λ (p : ℕ). position_of p (j (goal.at.After-position_of-position c).Start)) (parity_is (goal.at.After-position_of-position c).After-split_of-at)

pub split_of-at-requires : goal.split_of-at-requires
split_of-at-requires c = split_asks c.args.self.shelf.now c.args.self.passed

pub position_of-position-requires : goal.position_of-position-requires
position_of-position-requires c = omega (arith, j-lt (L (goal.at.position_of-position-requires c).Start) (E (goal.at.position_of-position-requires c).Start) c.args.address, (bounds _ c.args.self.passed).addresses)

pub place_in-data-requires : goal.place_in-data-requires
place_in-data-requires c =
    (split_is (goal.at.place_in-data-requires c).After-split_of-at, rw (position_is c) (position-lt (L (goal.at.place_in-data-requires c).Start) (E (goal.at.place_in-data-requires c).Start) (stripe (goal.at.place_in-data-requires c).Start) (j (goal.at.place_in-data-requires c).Start) (j-lt (L (goal.at.place_in-data-requires c).Start) (E (goal.at.place_in-data-requires c).Start) c.args.address)))

pub place_in-parity-requires : goal.place_in-parity-requires
place_in-parity-requires c =
    (split_is (goal.at.place_in-parity-requires c).After-split_of-at, rw (parity_is (goal.at.place_in-parity-requires c).After-split_of-at) (parity-lt (L (goal.at.place_in-parity-requires c).Start) (E (goal.at.place_in-parity-requires c).Start) (stripe (goal.at.place_in-parity-requires c).Start)))

pub returns : goal.returns
unfolding spot_of place_of
returns c =
    let split = c.split_of-at.ensures in
    let unit = split_place (L (goal.at.returns c).Start) (stripe (goal.at.returns c).Start) _ split c.place_in-data.ensures ∙ ap (place_of (L (goal.at.returns c).Start) (stripe (goal.at.returns c).Start)) (position_is (goal.at.returns c).After-position_of-position) in
    let parity = split_place (L (goal.at.returns c).Start) (stripe (goal.at.returns c).Start) _ split c.place_in-parity.ensures ∙ ap (place_of (L (goal.at.returns c).Start) (stripe (goal.at.returns c).Start)) (parity_is (goal.at.returns c).After-split_of-at) in
    rw (unit, parity)
