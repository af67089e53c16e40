-- `parity::rules::of_lose` meets its contract: rule after rule, in the order of their numbers. Assumes nothing.
use mathlib.Core.Path.{◌≡◌, ap, ◌∙◌}
use mathlib.Core.Bool.{Bool}
use mathlib.Core.List.{[], ◌∷◌}
use Rattle.design.specs.declared.Refusal.TheVariants.{NotAShelf, SomeLost}
use Rattle.design.specs.Refusals.{first_broken}
use Rattle.design.specs.Shelf.{shelf_rule}
use Rattle.parity.specs.Calls.{disk_rule, lose_rules}
use Rattle.parity.specs.inner.Judged.{rule_of}
use Rattle.parity.proofs.Verdicts.{hands_on, goes_on}
use Rattle.parity.proofs.rules.of_lose.Goals as goal
use Rattle.parity.proofs.rules.of_lose.Goals.{In_ok-keep}

judged : (c : In_ok-keep) → c.keep.result ≡ first_broken (shelf_rule c.args.shelf.now ∷ [])
judged c = c.keep.ensures ∙ ap (λ (k : Bool). first_broken (rule_of k NotAShelf)) c.is_shelf.ensures

pub returns-in_err-keep : goal.returns-in_err-keep
unfolding lose_rules
returns-in_err-keep c =
    hands_on _ (shelf_rule _ ∷ []) (c.keep.ensures ∙ ap (λ (k : Bool). first_broken (rule_of k NotAShelf)) c.is_shelf.ensures) c.in_err-keep.was c.from_residual.ensures

pub returns-in_err-keep-2 : goal.returns-in_err-keep-2
unfolding lose_rules
returns-in_err-keep-2 c =
    hands_on _ (shelf_rule c.args.shelf.now ∷ disk_rule c.args.shelf.now c.args.disk ∷ [])
    (goes_on _ (shelf_rule _ ∷ []) (judged (goal.at.returns-in_err-keep-2 c).In_ok-keep) c.in_ok-keep.was c.keep-2.ensures) c.in_err-keep-2.was c.from_residual-in_err-keep-2.ensures

pub returns : goal.returns
unfolding lose_rules
returns c =
    goes_on _ (shelf_rule c.args.shelf.now ∷ disk_rule c.args.shelf.now c.args.disk ∷ [])
    (goes_on _ (shelf_rule _ ∷ []) (judged (goal.at.returns c).In_ok-keep) c.in_ok-keep.was c.keep-2.ensures) c.in_ok-keep-2.was
    (c.keep-3.ensures ∙ ap (λ (k : Bool). first_broken (rule_of k SomeLost)) c.is_whole.ensures)
