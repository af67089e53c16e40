-- `placement::look_up` meets its contract: each answer is that of the first rule that is broken. Assumes nothing.
use mathlib.Core.Path.{sym, ap, ◌∙◌}
use native.Mathlib.Omega.{arith}
use Rattle.std.specs.Prelude.{Ok, Err}
use Rattle.design.proofs.Refused.{handed_err}
use Rattle.placement.proofs.Accepted.{Looks, looked_up_lem, looked_up_not_a-shelf, looked_up_out_of_range}
use Rattle.placement.proofs.look_up.Goals as goal
use Rattle.placement.proofs.look_up.Goals.{Else-offsets-offset}

all_kept : (c : Else-offsets-offset) → Looks c.in_ok-checked.checked.shelf.now c.args.disk c.args.offset
all_kept c = record { shelf = c.in_ok-checked.checked.passed; disk = c.if-checked-disk.false; offset = omega (arith, c.offsets.ensures) }

pub returns-in_err-checked : goal.returns-in_err-checked
returns-in_err-checked c =
    let refused = c.in_err-checked.ensures.refused in
    handed_err _ c.from_residual.ensures ∙ ap Err refused.0 ∙ sym (looked_up_not_a-shelf _ _ _ refused.1)

pub returns-then-checked-disk : goal.returns-then-checked-disk
returns-then-checked-disk c = rw (← c.in_ok-checked.ensures.passed) (sym (looked_up_out_of_range _ _ _ c.in_ok-checked.checked.passed (λ d o. omega arith)))

pub returns-then-offsets-offset : goal.returns-then-offsets-offset
returns-then-offsets-offset c =
    rw (← c.in_ok-checked.ensures.passed) (sym (looked_up_out_of_range _ _ _ c.in_ok-checked.checked.passed (λ d o. omega (arith, c.offsets.ensures))))

pub returns : goal.returns
returns c =
    rw (← c.in_ok-checked.ensures.passed) (ap Ok c.stands_at.ensures ∙ sym (looked_up_lem _ _ _ (all_kept (goal.at.returns c).Else-offsets-offset)))
