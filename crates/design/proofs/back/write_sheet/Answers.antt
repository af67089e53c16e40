-- `design::back::write_sheet` meets its contract: zeros, the header over them, and the disk numbers after it are the sheet.
-- Assumes nothing.
use mathlib.Core.Path.{sym, ap, ◌∙◌}
use mathlib.Core.List.{List}
use Prim.Native.Nat.{ℕ, ◌*◌, ◌<◌}
use native.Mathlib.Omega.{arith}
use lib.ListN.{take, replicate}
use lib.Seq.{get_or-take}
use Rattle.std.proofs.lemmas.List.{get_or_default, length-take}
use Rattle.design.specs.Sheet.{sheet_length}
use Rattle.design.specs.Shelf.{packed, header_in, numbers_in}
use Rattle.design.proofs.ShelfTests.{IsShelf, shelf_parts}
use Rattle.design.proofs.Packing.{sheet-packed}
use Rattle.design.proofs.back.write_sheet.Goals as goal
use Rattle.design.proofs.back.write_sheet.Goals.{Start}

parts : (c : Start) → IsShelf c.args.shelf
parts c = shelf_parts c.args.shelf c.requires.0

pub write_header-requires : goal.write_header-requires
unfolding sheet_length
write_header-requires c = (c.requires.0, omega (arith, c.fill.auto))

pub overflow_mul-shelf : goal.overflow_mul-shelf
overflow_mul-shelf c = omega (arith, (parts (goal.at.overflow_mul-shelf c).Start).limits.places)

pub shared_ref_as_front-write_numbers : goal.shared_ref_as_front-write_numbers
shared_ref_as_front-write_numbers c = (parts (goal.at.shared_ref_as_front-write_numbers c).Start).limits.places

pub write_numbers-requires-clause-below : goal.write_numbers-requires-clause-below
write_numbers-requires-clause-below c =
    λ i d l.
    let p = parts (goal.at.write_numbers-requires-clause-below c).Start in
    let h = c.args.shelf in
    let m : i < h.b * h.k = omega (arith, length-take (h.b * h.k) h.table) in
    rw (get_or_default _ i d 0 l, get_or-take (h.b * h.k) h.table i 0 m) (omega (arith, p.below i m, p.limits.v_most))

pub returns : goal.returns
returns c =
    let h = c.args.shelf in
    c.write_numbers.ensures
    ∙ ap (λ (s : List ℕ). packed s 48 (numbers_in (take (h.b * h.k) h.table)))
    (c.write_header.ensures ∙ ap (λ (s : List ℕ). packed s 0 (header_in h)) (c.fill.ensures.after (λ y e. e) ∙ ap (λ (n : ℕ). replicate n 0) c.requires.1))
    ∙ sym (sheet-packed h)
