-- `parity::rules::of_image` meets its contract: rule after rule, in the order of their numbers. Assumes nothing.
use mathlib.Core.Path.{◌≡◌, refl, sym, ap, ◌∙◌}
use mathlib.Core.List.{[], ◌∷◌}
use Prim.Native.Nat.{ℕ}
use lib.Dec.{eqb}
use Rattle.std.specs.Prelude.{Err}
use Rattle.design.specs.declared.Refusal.TheVariants.{OtherImage}
use Rattle.design.specs.Refusals.{first_broken}
use Rattle.design.specs.Shelf.{shelf_rule}
use Rattle.parity.specs.inner.Judged.{image_rules, rule_of}
use Rattle.parity.proofs.Verdicts.{hands, goes_on, shelf_judged, shelf_broken}
use Rattle.parity.proofs.rules.of_image.Goals as goal
use Rattle.parity.proofs.rules.of_image.Goals.{After-keep}

pub returns-in_err-checked-clause-judged : goal.returns-in_err-checked-clause-judged
returns-in_err-checked-clause-judged c =
    let refused = c.in_err-checked.ensures.refused in
    hands _ (ap Err refused.0 ∙ shelf_broken _ _ refused.1) refl c.from_residual.ensures

judged : (c : After-keep) → c.keep.result ≡ first_broken (image_rules c.args.shelf.now c.args.n)
judged c =
    let same = c.in_ok-checked.ensures.passed in
    goes_on _ (shelf_rule _ ∷ []) (shelf_judged _ (rw same at c.in_ok-checked.checked.passed)) refl
    (c.keep.ensures ∙ ap (λ (n : ℕ). first_broken (rule_of (eqb c.args.n n) OtherImage)) (rw same at c.image_size.ensures))

pub returns-in_err-keep-clause-judged : goal.returns-in_err-keep-clause-judged
returns-in_err-keep-clause-judged c = hands _ (judged (goal.at.returns-in_err-keep-clause-judged c).After-keep) c.in_err-keep.was c.from_residual-in_err-keep.ensures

pub returns-clause-judged : goal.returns-clause-judged
returns-clause-judged c = sym c.in_ok-keep.was ∙ judged (goal.at.returns-clause-judged c).After-keep
