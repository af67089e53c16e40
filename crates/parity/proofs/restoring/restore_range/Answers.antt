-- `parity::restoring::restore_range` meets its contract. The loop's invariant: the units at the offsets passed are restored. The measure is
-- the offsets left. Assumes nothing.
use mathlib.Core.Path.{◌≡◌, sym, ◌∙◌}
use Prim.Native.Nat.{◌/◌, ◌%◌, ◌^◌, ◌<◌}
use native.Mathlib.Nat.{mod-lt}
use native.Mathlib.Omega.{arith}
use Rattle.design.specs.declared.Shelf.{Shelf}
use Rattle.placement.specs.Layout.{layout_in}
use Rattle.placement.proofs.Even.{Even, even_shelf}
use Rattle.placement.proofs.Bounds.{bounds}
use Rattle.placement.proofs.PerEntry.{entries_at}
use Rattle.parity.specs.Stripe.{depth}
use Rattle.parity.proofs.Ready.{entries_fit}
use Rattle.parity.proofs.Restores.{restored_is}
use Rattle.parity.proofs.LostUnits.{stripe_for, Prepared, rank_fits, stripe-lt, index_lt, restored_next, restored-start}
use Rattle.parity.proofs.restoring.restore_range.Goals as goal
use Rattle.parity.proofs.restoring.restore_range.Goals.{After-entries-entries, In-loop-o, At-loop-o}

prepared : (c : After-entries-entries) → Prepared c.args.checked.shelf.now c.lost_disk.result c.entries-entries.result
prepared c = record {
  ok = c.args.checked.passed;
  gone = c.lost_disk.ensures;
  listed = entries_at _ _ _ c.entries-entries.ensures (entries_fit c.args.checked.shelf.now c.args.checked.passed);
}

pub lost_disk-requires : goal.lost_disk-requires
lost_disk-requires c = c.requires.loss_value

pub loop-o-init : goal.loop-o-init
loop-o-init c = (omega arith, c.requires.from_le_to.0, restored-start c.args.checked.shelf.now c.args.checked.passed _ c.requires.size _)

-- ---- after the loop: the units at these offsets are restored
pub shape_of-image : goal.shape_of-image
shape_of-image c = c.loop-o.invariant.2.len ∙ sym c.requires.size

pub returns : goal.returns
returns c =
    let all : c.loop-o.o ≡ c.args.to = omega (arith, c.loop-o.invariant.1, c.loop-o-test.false) in
    restored_is c.args.checked.shelf.now c.args.checked.passed c.args.image.now c.requires.size c.args.from c.args.to (rw all at c.loop-o.invariant.2)

-- ---- at offset o
abbrev shelf : At-loop-o → Shelf
shelf c = c.args.checked.shelf.now

-- it is one of the disk's
offset_lt : (c : In-loop-o) → c.loop-o.o < depth c.args.checked.shelf.now
offset_lt c = omega (arith, c.loop-o-test.true, c.requires.from_le_to.1)

even : (c : At-loop-o) → Even (layout_in (shelf c))
even c = even_shelf (shelf c) c.args.checked.passed

-- where its entry stands in the list
listed_lt : (c : At-loop-o) → c.loop-o.o % (shelf c).r < 2048
listed_lt c = rank_fits (shelf c) (prepared (goal.at.At-loop-o c).After-entries-entries) c.loop-o.o

k_pos : (c : At-loop-o) → 0 < (shelf c).k
k_pos c = omega (arith, (even c).k_least)

row_lt : (c : At-loop-o) → c.loop-o.o / (shelf c).r % (shelf c).k < (shelf c).k
row_lt c = mod-lt (c.loop-o.o / (shelf c).r) (k_pos c)

pub offset_bounds-entries-o : goal.offset_bounds-entries-o
offset_bounds-entries-o c = omega (arith, listed_lt (goal.at.offset_bounds-entries-o c).At-loop-o)

pub bounds-entries-o : goal.bounds-entries-o
bounds-entries-o c = listed_lt (goal.at.bounds-entries-o c).At-loop-o

pub nonzero_div-row : goal.nonzero_div-row
nonzero_div-row c = (even (goal.at.nonzero_div-row c).At-loop-o).r_pos

below : (c : In-loop-o) → stripe_for c.args.checked.shelf.now c.entries-entries.result c.loop-o.o < 2 ^ 27
below c =
    let P = prepared (goal.at.In-loop-o c).After-entries-entries in
    omega (arith, stripe-lt c.args.checked.shelf.now P c.loop-o.o (offset_lt c), (bounds c.args.checked.shelf.now P.ok).stripes)

pub overflow_mul-s : goal.overflow_mul-s
overflow_mul-s c = omega (arith, below (goal.at.overflow_mul-s c).In-loop-o)

pub nonzero_div-s : goal.nonzero_div-s
nonzero_div-s c = omega (arith, (even (goal.at.nonzero_div-s c).At-loop-o).k_least)

pub overflow_add-s : goal.overflow_add-s
overflow_add-s c = omega (arith, below (goal.at.overflow_add-s c).In-loop-o)

pub overflow_sub-k : goal.overflow_sub-k
overflow_sub-k c = omega (arith, (even (goal.at.overflow_sub-k c).At-loop-o).k_least)

pub nonzero_rem-row : goal.nonzero_rem-row
nonzero_rem-row c = omega (arith, (even (goal.at.nonzero_rem-row c).At-loop-o).k_least)

pub overflow_sub-k-in-loop-o : goal.overflow_sub-k-in-loop-o
overflow_sub-k-in-loop-o c = omega (arith, row_lt (goal.at.overflow_sub-k-in-loop-o c).At-loop-o)

pub nonzero_rem-entry : goal.nonzero_rem-entry
nonzero_rem-entry c = omega (arith, (even (goal.at.nonzero_rem-entry c).At-loop-o).k_least)

pub index_of-i-requires : goal.index_of-i-requires
index_of-i-requires c = (mod-lt _ (k_pos (goal.at.index_of-i-requires c).At-loop-o), omega (arith, (even (goal.at.index_of-i-requires c).At-loop-o).k_least))

pub restore-requires : goal.restore-requires
restore-requires c =
    let P = prepared (goal.at.restore-requires c).After-entries-entries in
    let o = c.loop-o.o in
    let below = offset_lt (goal.at.restore-requires c).In-loop-o in
    rw (c.of-stripes.ensures, c.from-entry.ensures)
    (record { size = c.loop-o.invariant.2.len; unit = (stripe-lt c.args.checked.shelf.now P o below, index_lt c.args.checked.shelf.now P o below (rw c.from-entry.ensures at c.index_of-i.ensures)) })

pub overflow_step-o : goal.overflow_step-o
overflow_step-o c =
    omega (arith, offset_lt (goal.at.overflow_step-o c).In-loop-o, (bounds (shelf (goal.at.overflow_step-o c).At-loop-o) c.args.checked.passed).offsets)

pub loop-o-preserved : goal.loop-o-preserved
loop-o-preserved c =
    let P = prepared (goal.at.loop-o-preserved c).After-entries-entries in
    let o = c.loop-o.o in (
      omega arith,
      omega arith,
      restored_next (shelf (goal.at.loop-o-preserved c).At-loop-o) P o (offset_lt (goal.at.loop-o-preserved c).In-loop-o) c.args.image.now c.loop-o.image _ c.requires.size c.loop-o.invariant.0 c.loop-o.invariant.2 (rw c.from-entry.ensures at c.index_of-i.ensures) (rw (c.of-stripes.ensures, c.from-entry.ensures) at c.restore.ensures),
    )
