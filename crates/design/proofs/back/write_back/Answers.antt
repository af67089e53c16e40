-- `design::back::write_back` meets its contract, one way for each rule and one for the sheet written. Assumes nothing.
use mathlib.Core.Path.{◌≡◌, sym, ◌∙◌}
use mathlib.Core.Bool.{true}
use Prim.Native.Nat.{◌*◌, ◌≤◌}
use native.Mathlib.Omega.{arith}
use lib.ListN.{length, take}
use lib.Seq.{length-take-le}
use Rattle.design.specs.Shelf.{is_shelf}
use Rattle.design.proofs.ShelfTests.{shelf_parts}
use Rattle.design.proofs.Packing.{back_not_a-shelf, back_other_buffer, back_written}
use Rattle.design.proofs.back.write_back.Goals as goal
use Rattle.design.proofs.back.write_back.Goals.{After-write_sheet-arg-1, Else-not-is_shelf}

pub returns-then-not-is_shelf : goal.returns-then-not-is_shelf
returns-then-not-is_shelf c =
    let args = c.args in
    back_not_a-shelf args.shelf args.buffer.now (sym c.is_shelf.ensures ∙ c.if-not-is_shelf.true)

-- past the first test the value is a shelf
shelf : (c : Else-not-is_shelf) → is_shelf c.args.shelf ≡ true
shelf c = sym c.is_shelf.ensures ∙ c.if-not-is_shelf.false

places : (c : Else-not-is_shelf) → c.args.shelf.b * c.args.shelf.k ≤ 2048
places c = (shelf_parts c.args.shelf (shelf c)).limits.places

pub overflow_mul-shelf : goal.overflow_mul-shelf
overflow_mul-shelf c = omega (arith, places (goal.at.overflow_mul-shelf c).Else-not-is_shelf)

pub sheet_length-length-requires : goal.sheet_length-length-requires
sheet_length-length-requires c = places (goal.at.sheet_length-length-requires c).Else-not-is_shelf

pub returns-then-buffer-length : goal.returns-then-buffer-length
returns-then-buffer-length c =
    let args = c.args in
    back_other_buffer args.shelf args.buffer.now (shelf (goal.at.returns-then-buffer-length c).Else-not-is_shelf) (omega (arith, c.sheet_length-length.ensures))

-- the part that is lent has the sheet's length
part_length : (c : After-write_sheet-arg-1)
    → length (take c.sheet_length-length.result c.args.buffer.now)
    ≡ c.sheet_length-length.result
part_length c =
    length-take-le c.sheet_length-length.result c.args.buffer.now c.if-buffer-length.false

pub slice_bounds-write_sheet-end-2 : goal.slice_bounds-write_sheet-end-2
slice_bounds-write_sheet-end-2 c = sym (part_length c)

pub write_sheet-requires : goal.write_sheet-requires
write_sheet-requires c = (shelf (goal.at.write_sheet-requires c).Else-not-is_shelf, part_length c ∙ c.sheet_length-length.ensures)

pub returns : goal.returns
returns c =
    let args = c.args in
    rw (c.write_sheet.ensures, c.sheet_length-length.ensures)
    (back_written args.shelf args.buffer.now (shelf (goal.at.returns c).Else-not-is_shelf) (omega (arith, c.sheet_length-length.ensures)))
