-- `placement::unchecked::Checked::stands_at` meets its contract: the entry that is found gives the tuple and the position.
-- Assumes nothing.
use mathlib.Core.Path.{◌≡◌, sym, ap, ◌∙◌}
use mathlib.Core.Logic.{◌≢◌}
use Prim.Native.Nat.{ℕ, ◌+◌, ◌-◌, ◌*◌, ◌/◌, ◌%◌, ◌≤◌, ◌<◌}
use native.Mathlib.Nat.{mod-lt}
use native.Mathlib.Omega.{arith}
use lib.Arith.{digits_lt}
use lib.ListN.{length}
use lib.Seq.{length-take-le}
use Rattle.design.specs.Count.{nth}
use Rattle.placement.specs.Entries.{is_disk}
use Rattle.design.proofs.ShelfTests.{shelf_parts}
use Rattle.placement.specs.declared.LookUp.TheVariants as LookUp
use Rattle.placement.specs.Slots.{index_of}
use Rattle.placement.specs.Layout.{Layout, layout_in, stripes, addresses, parity_of, stripe_at, position_at}
use Rattle.placement.proofs.Even.{Even, even_shelf}
use Rattle.placement.proofs.Position.{data_at}
use Rattle.placement.proofs.Undo.{stripe_there}
use Rattle.placement.proofs.Stands.{stands_parity, stands_data}
use Rattle.placement.proofs.Bounds.{bounds}
use Rattle.placement.proofs.Flat.{counted, entry_nth, some_left, stripe-found, position-found}
use Rattle.placement.proofs.Splits.{split_asks, split-parity}
use Rattle.placement.proofs.unchecked.Checked.stands_at.Goals as goal
use Rattle.placement.proofs.unchecked.Checked.stands_at.Goals.{After-index_of-j, After-nth-entry, After-split_of-parity, Start}

abbrev L : Start → Layout
L s = layout_in s.args.self.shelf.now

E : (s : Start) → Even (L s)
E s = even_shelf s.args.self.shelf.now s.args.self.passed

-- the stripe and the position, as the code has them
abbrev stripe : After-nth-entry → ℕ
stripe c = let a = c.args in a.offset / a.self.shelf.now.r * a.self.shelf.now.b + c.nth-entry.result / a.self.shelf.now.k

abbrev position : After-nth-entry → ℕ
position c = c.nth-entry.result % c.args.self.shelf.now.k

-- the entry found
entry_is : (c : After-nth-entry) → c.nth-entry.result ≡ nth (is_disk c.args.self.shelf.now.table c.args.disk) (c.args.self.shelf.now.b * c.args.self.shelf.now.k) (c.args.offset % c.args.self.shelf.now.r)
entry_is c =
    let places : c.args.self.shelf.now.b * c.args.self.shelf.now.k ≤ length c.args.self.shelf.now.table = omega (arith, (shelf_parts c.args.self.shelf.now c.args.self.passed).limits.places) in
    let n = c.nth-entry.ensures in
    entry_nth c.args.self.shelf.now.table c.args.disk (c.args.self.shelf.now.b * c.args.self.shelf.now.k) _ c.nth-entry.result places n.within n.found n.before

stripe_is : (c : After-nth-entry) → stripe_at (L (goal.at.After-nth-entry c).Start) c.args.disk c.args.offset ≡ stripe c
stripe_is c = stripe-found c.args.self.shelf.now c.args.self.passed c.args.disk c.args.offset c.nth-entry.result c.requires.0 (entry_is c)

position_is : (c : After-nth-entry) → position_at (L (goal.at.After-nth-entry c).Start) c.args.disk c.args.offset ≡ position c
position_is c = position-found c.args.self.shelf.now c.args.self.passed c.args.disk c.args.offset c.nth-entry.result c.requires.0 (entry_is c)

stripe-lt : (c : After-nth-entry) → stripe c < stripes (L (goal.at.After-nth-entry c).Start)
stripe-lt c =
    rw (stripe_is c) at (stripe_there (L (goal.at.After-nth-entry c).Start) (E (goal.at.After-nth-entry c).Start) c.args.disk c.args.offset c.requires.0 c.requires.1)

-- ---- where it is data
parity_is : (c : After-split_of-parity) → c.split_of-parity.result.parity ≡ parity_of (L (goal.at.After-split_of-parity c).Start) (stripe (goal.at.After-split_of-parity c).After-nth-entry)
parity_is c = split-parity (L (goal.at.After-split_of-parity c).Start) (stripe (goal.at.After-split_of-parity c).After-nth-entry) c.split_of-parity.ensures

abbrev parity : After-index_of-j → ℕ
parity c = parity_of (L (goal.at.After-index_of-j c).Start) (stripe (goal.at.After-index_of-j c).After-nth-entry)

other : (c : After-index_of-j) → position (goal.at.After-index_of-j c).After-nth-entry ≢ parity c
other c e = c.if-position-parity.false (e ∙ sym (parity_is (goal.at.After-index_of-j c).After-split_of-parity))

j_is : (c : After-index_of-j) → c.index_of-j.result ≡ index_of (parity c) (position (goal.at.After-index_of-j c).After-nth-entry)
j_is c = c.index_of-j.ensures ∙ ap (λ (p : ℕ). index_of p (position (goal.at.After-index_of-j c).After-nth-entry)) (parity_is (goal.at.After-index_of-j c).After-split_of-parity)

address-lt : (c : After-index_of-j) → stripe (goal.at.After-index_of-j c).After-nth-entry * (c.args.self.shelf.now.k - 1) + c.index_of-j.result < addresses (L (goal.at.After-index_of-j c).Start)
address-lt c =
    let few : position (goal.at.After-index_of-j c).After-nth-entry < c.args.self.shelf.now.k = mod-lt c.nth-entry.result (omega (arith, (E (goal.at.After-index_of-j c).Start).k_least)) in
    let j-lt : c.index_of-j.result < c.args.self.shelf.now.k - 1 = omega (arith, j_is c, (data_at (L (goal.at.After-index_of-j c).Start) (E (goal.at.After-index_of-j c).Start) (stripe (goal.at.After-index_of-j c).After-nth-entry) (position (goal.at.After-index_of-j c).After-nth-entry) few (other c)).below) in
    digits_lt (stripe-lt (goal.at.After-index_of-j c).After-nth-entry) j-lt

-- ---- the goals
pub overflow_mul-b : goal.overflow_mul-b
overflow_mul-b c = omega (arith, (shelf_parts c.args.self.shelf.now c.args.self.passed).limits.places)

pub slice_bounds-nth-end : goal.slice_bounds-nth-end
slice_bounds-nth-end c =
    sym (length-take-le _ c.args.self.shelf.now.table (omega (arith, (shelf_parts c.args.self.shelf.now c.args.self.passed).limits.places)))

pub overflow_cast-disk : goal.overflow_cast-disk
overflow_cast-disk c = omega (arith, c.requires.0, (shelf_parts c.args.self.shelf.now c.args.self.passed).limits.v_most)

pub nth-entry-requires : goal.nth-entry-requires
nth-entry-requires c =
    let places : c.args.self.shelf.now.b * c.args.self.shelf.now.k ≤ length c.args.self.shelf.now.table = omega (arith, (shelf_parts c.args.self.shelf.now c.args.self.passed).limits.places) in
    omega (arith, counted c.args.self.shelf.now.table c.args.disk _ places, some_left c.args.self.shelf.now c.args.self.passed c.args.disk c.args.offset c.requires.0)

pub overflow_mul-stripe : goal.overflow_mul-stripe
overflow_mul-stripe c = omega (arith, stripe-lt c, (bounds _ c.args.self.passed).stripes)

pub overflow_add-stripe : goal.overflow_add-stripe
overflow_add-stripe c = omega (arith, stripe-lt c, (bounds _ c.args.self.passed).stripes)

pub split_of-parity-requires : goal.split_of-parity-requires
split_of-parity-requires c = split_asks c.args.self.shelf.now c.args.self.passed

pub returns-then-position-parity : goal.returns-then-position-parity
returns-then-position-parity c =
    sym (stands_parity (L (goal.at.returns-then-position-parity c).Start) _ _ (stripe_is (goal.at.returns-then-position-parity c).After-nth-entry) (position_is (goal.at.returns-then-position-parity c).After-nth-entry) (c.if-position-parity.true ∙ parity_is (goal.at.returns-then-position-parity c).After-split_of-parity))

pub overflow_mul-address : goal.overflow_mul-address
overflow_mul-address c = omega (arith, address-lt c, (bounds _ c.args.self.passed).addresses)

pub overflow_add-address : goal.overflow_add-address
overflow_add-address c = omega (arith, address-lt c, (bounds _ c.args.self.passed).addresses)

pub returns : goal.returns
returns c =
    ap (λ (j : ℕ). LookUp.Data (stripe (goal.at.returns c).After-nth-entry) (stripe (goal.at.returns c).After-nth-entry * (c.args.self.shelf.now.k - 1) + j)) (j_is c)
    ∙ sym (stands_data (L (goal.at.returns c).Start) _ _ (stripe_is (goal.at.returns c).After-nth-entry) (position_is (goal.at.returns c).After-nth-entry) (other c))
