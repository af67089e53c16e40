-- `placement::run_verdict` meets its contract: one way for a value that is no shelf, two out of range, one accepted. Assumes
-- nothing.
use mathlib.Core.Path.{sym, ap, ◌∙◌}
use native.Mathlib.Omega.{arith}
use Rattle.std.specs.Prelude.{Err}
use Rattle.design.proofs.Refused.{handed_err}
use Rattle.placement.proofs.Running.{runs_accepted, run_not_a-shelf, run_out_of_range}
use Rattle.placement.proofs.run_verdict.Goals as goal

pub returns-in_err-checked : goal.returns-in_err-checked
returns-in_err-checked c =
    let refused = c.in_err-checked.ensures.refused in
    handed_err _ c.from_residual.ensures ∙ ap Err refused.0 ∙ sym (run_not_a-shelf _ _ _ refused.1)

pub returns-then-addresses-first : goal.returns-then-addresses-first
returns-then-addresses-first c =
    rw (← c.in_ok-checked.ensures.passed) (sym (run_out_of_range _ _ _ c.in_ok-checked.checked.passed (omega (arith, c.addresses-addresses.ensures, c.if-addresses-first.true))))

pub returns-then-addresses-first-2 : goal.returns-then-addresses-first-2
returns-then-addresses-first-2 c =
    rw (← c.in_ok-checked.ensures.passed) (sym (run_out_of_range _ _ _ c.in_ok-checked.checked.passed (omega (arith, c.addresses-addresses.ensures, c.if-addresses-first-2.true))))

pub returns : goal.returns
returns c =
    rw (← c.in_ok-checked.ensures.passed) (sym (runs_accepted _ _ _ (record { shelf = c.in_ok-checked.checked.passed; range = omega (arith, c.addresses-addresses.ensures, c.if-addresses-first.false, c.if-addresses-first-2.false) })))
