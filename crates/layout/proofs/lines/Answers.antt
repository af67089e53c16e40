-- `layout::lines` meets its contract: one way for no shelf, two out of range, one for a short buffer, one for the lines written.
-- Assumes nothing.
use mathlib.Core.List.{List}
use Prim.Native.Nat.{ℕ, ◌+◌, ◌≤◌}
use native.Mathlib.Omega.{arith}
use Rattle.design.specs.declared.Shelf.{Shelf}
use Rattle.design.specs.Refusals.{Rule}
use Rattle.design.proofs.Refused.{handed_err}
use Rattle.placement.specs.Layout.{layout_in, stripes}
use Rattle.layout.specs.Text.{lines_from}
use Rattle.layout.specs.Calls.{lines_rules}
use Rattle.layout.proofs.Calls.{accepted, refused, lines_kept, lines_not_a-shelf, lines_out_of_range, lines_short}
use Rattle.layout.proofs.lines.Goals as goal
use Rattle.layout.proofs.lines.Goals.{Start, Else-stripes-first-2}

abbrev rules : Start → Shelf → List Rule
rules s h = lines_rules h s.args.first s.args.n s.args.buffer.now

abbrev text : Start → Shelf → List ℕ
text s h = lines_from (layout_in h) s.args.first s.args.n

-- past the two tests the stripes are there
range : (c : Else-stripes-first-2) → c.args.first + c.args.n ≤ stripes (layout_in c.in_ok-checked.checked.shelf.now)
range c = omega (arith, c.stripes-stripes.ensures, c.if-stripes-first.false, c.if-stripes-first-2.false)

pub returns-in_err-checked : goal.returns-in_err-checked
returns-in_err-checked c =
    let s = (goal.at.returns-in_err-checked c).Start in
    let no_shelf = c.in_err-checked.ensures.refused in
    rw (handed_err _ c.from_residual.ensures, no_shelf.0) (refused (rules s c.args.shelf) (text s c.args.shelf) c.args.buffer.now (lines_not_a-shelf _ _ _ _ no_shelf.1))

pub returns-then-stripes-first : goal.returns-then-stripes-first
returns-then-stripes-first c =
    let s = (goal.at.returns-then-stripes-first c).Start in
    let h = c.in_ok-checked.checked in
    rw (← c.in_ok-checked.ensures.passed)
    (refused (rules s h.shelf.now) (text s h.shelf.now) c.args.buffer.now
    (lines_out_of_range _ _ _ _ h.passed (omega (arith, c.stripes-stripes.ensures, c.if-stripes-first.true))))

pub returns-then-stripes-first-2 : goal.returns-then-stripes-first-2
returns-then-stripes-first-2 c =
    let s = (goal.at.returns-then-stripes-first-2 c).Start in
    let h = c.in_ok-checked.checked in
    rw (← c.in_ok-checked.ensures.passed)
    (refused (rules s h.shelf.now) (text s h.shelf.now) c.args.buffer.now
    (lines_out_of_range _ _ _ _ h.passed (omega (arith, c.stripes-stripes.ensures, c.if-stripes-first-2.true))))

pub returns-in_err-room_for : goal.returns-in_err-room_for
returns-in_err-room_for c =
    let s = (goal.at.returns-in_err-room_for c).Start in
    let h = c.in_ok-checked.checked in
    let short = c.in_err-room_for.ensures in
    rw (handed_err _ c.from_residual-in_err-room_for.ensures, short.0, ← c.in_ok-checked.ensures.passed)
    (refused (rules s h.shelf.now) (text s h.shelf.now) c.args.buffer.now
    (lines_short _ _ _ _ h.passed (range (goal.at.returns-in_err-room_for c).Else-stripes-first-2) short.1))

pub lines-requires : goal.lines-requires
lines-requires c = (rw c.of-rows.ensures (range (goal.at.lines-requires c).Else-stripes-first-2), c.in_ok-room_for.ensures)

pub returns : goal.returns
returns c =
    let s = (goal.at.returns c).Start in
    let h = c.in_ok-checked.checked in
    rw (← c.in_ok-checked.ensures.passed)
    (accepted (rules s h.shelf.now) (text s h.shelf.now) c.args.buffer.now
    (lines_kept _ _ _ _ h.passed (range (goal.at.returns c).Else-stripes-first-2) c.in_ok-room_for.ensures)
    (rw c.of-rows.ensures at c.lines.ensures))
