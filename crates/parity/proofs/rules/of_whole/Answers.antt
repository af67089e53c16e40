-- `parity::rules::of_whole` meets its contract: the rules of an image, and one more. Assumes nothing.
use mathlib.Core.Path.{◌≡◌, refl, sym, ap, ◌∙◌}
use mathlib.Core.Bool.{Bool}
use Rattle.design.specs.declared.Refusal.TheVariants.{SomeLost}
use Rattle.design.specs.Refusals.{first_broken}
use Rattle.parity.specs.Calls.{whole_rules}
use Rattle.parity.specs.inner.Judged.{image_rules, rule_of}
use Rattle.parity.proofs.Verdicts.{hands, hands_back, goes_on}
use Rattle.parity.proofs.rules.of_whole.Goals as goal
use Rattle.parity.proofs.rules.of_whole.Goals.{After-keep}

pub returns-in_err-checked-clause-judged : goal.returns-in_err-checked-clause-judged
unfolding whole_rules
returns-in_err-checked-clause-judged c = hands_back _ (image_rules _ _) _ c.in_err-checked.ensures.judged refl c.from_residual.ensures

judged : (c : After-keep) → c.keep.result ≡ first_broken (whole_rules c.args.shelf.now c.args.n)
unfolding whole_rules
judged c =
    goes_on _ (image_rules _ _) c.in_ok-checked.ensures.judged refl
    (c.keep.ensures ∙ ap (λ (k : Bool). first_broken (rule_of (k) SomeLost)) c.is_whole.ensures)

pub returns-in_err-keep-clause-judged : goal.returns-in_err-keep-clause-judged
returns-in_err-keep-clause-judged c = hands _ (judged (goal.at.returns-in_err-keep-clause-judged c).After-keep) c.in_err-keep.was c.from_residual-in_err-keep.ensures

pub returns-clause-judged : goal.returns-clause-judged
returns-clause-judged c = sym c.in_ok-keep.was ∙ judged (goal.at.returns-clause-judged c).After-keep
