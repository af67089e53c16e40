-- `parity::blank` meets its contract: what is left is as the verdict says. Assumes nothing.
use mathlib.Core.Path.{sym, ◌∙◌}
use Rattle.design.proofs.Refused.{handed_err}
use Rattle.parity.proofs.By.{by_accepted, by_refused}
use Rattle.parity.proofs.blank.Goals as goal

pub returns-in_err-of_whole : goal.returns-in_err-of_whole
returns-in_err-of_whole c =
    let judged = c.in_err-of_whole.ensures.judged in
    record { answers = handed_err _ c.from_residual.ensures ∙ judged; leaves = sym (by_refused _ _ (sym judged)) }

pub returns : goal.returns
returns c =
    let judged = c.in_ok-of_whole.ensures.judged in
    record { answers = judged; leaves = c.fill.ensures.after (λ y e. e) ∙ sym (by_accepted _ _ (sym judged)) }
