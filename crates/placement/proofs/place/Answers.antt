-- `placement::place` meets its contract: each answer is that of the first rule that is broken. Assumes nothing.
use mathlib.Core.Path.{sym, ap, ◌∙◌}
use native.Mathlib.Omega.{arith}
use Rattle.std.specs.Prelude.{Ok, Err}
use Rattle.design.proofs.Refused.{handed_err}
use Rattle.placement.proofs.Accepted.{placed_at, placed_not_a-shelf, placed_out_of_range}
use Rattle.placement.proofs.place.Goals as goal

pub returns-in_err-checked : goal.returns-in_err-checked
returns-in_err-checked c =
    let refused = c.in_err-checked.ensures.refused in
    handed_err _ c.from_residual.ensures ∙ ap Err refused.0 ∙ sym (placed_not_a-shelf _ _ refused.1)

pub returns-then-addresses-address : goal.returns-then-addresses-address
returns-then-addresses-address c =
    rw (← c.in_ok-checked.ensures.passed) (sym (placed_out_of_range _ _ c.in_ok-checked.checked.passed (omega (arith, c.addresses.ensures))))

pub returns : goal.returns
returns c =
    rw (← c.in_ok-checked.ensures.passed) (ap Ok c.spot.ensures ∙ sym (placed_at _ _ c.in_ok-checked.checked.passed (omega (arith, c.addresses.ensures))))
