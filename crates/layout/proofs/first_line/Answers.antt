-- `layout::first_line` meets its contract: one way for each rule and one for the line written. Assumes nothing.
use Rattle.design.proofs.Refused.{handed_err}
use Rattle.layout.specs.Text.{first_line}
use Rattle.layout.specs.Calls.{first_rules}
use Rattle.layout.proofs.Calls.{accepted, refused, first_kept, first_not_a-shelf, first_short}
use Rattle.layout.proofs.first_line.Goals as goal

pub returns-in_err-checked : goal.returns-in_err-checked
returns-in_err-checked c =
    let a = c.args in
    let no_shelf = c.in_err-checked.ensures.refused in
    rw (handed_err _ c.from_residual.ensures, no_shelf.0) (refused (first_rules a.shelf a.buffer.now) (first_line a.shelf) a.buffer.now (first_not_a-shelf _ _ no_shelf.1))

pub returns-in_err-room_for : goal.returns-in_err-room_for
returns-in_err-room_for c =
    let a = c.args in
    let h = c.in_ok-checked.checked in
    let short = c.in_err-room_for.ensures in
    rw (handed_err _ c.from_residual-in_err-room_for.ensures, short.0, ← c.in_ok-checked.ensures.passed)
    (refused (first_rules h.shelf.now a.buffer.now) (first_line h.shelf.now) a.buffer.now (first_short _ _ h.passed short.1))

pub returns : goal.returns
returns c =
    let a = c.args in
    let h = c.in_ok-checked.checked in
    rw (← c.in_ok-checked.ensures.passed)
    (accepted (first_rules h.shelf.now a.buffer.now) (first_line h.shelf.now) a.buffer.now (first_kept _ _ h.passed c.in_ok-room_for.ensures) c.first.ensures)
