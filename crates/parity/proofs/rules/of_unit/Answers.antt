-- `parity::rules::of_unit` meets its contract: rule after rule, in the order of their numbers. Assumes nothing.
use mathlib.Core.Path.{◌≡◌, refl, sym, ap, ◌∙◌}
use mathlib.Core.List.{[], ◌∷◌, ◌++◌}
use Prim.Native.Nat.{ℕ}
use native.Mathlib.Nat.{one-mul}
use lib.Dec.{ltb, eqb}
use Rattle.design.specs.declared.Refusal.TheVariants.{OutOfRange, OtherBuffer}
use Rattle.design.specs.Refusals.{first_broken}
use Rattle.parity.specs.Calls.{address_rule, unit_rules}
use Rattle.parity.specs.inner.Judged.{image_rules, rule_of}
use Rattle.parity.proofs.Verdicts.{hands, hands_back, goes_on}
use Rattle.parity.proofs.rules.of_unit.Goals as goal
use Rattle.parity.proofs.rules.of_unit.Goals.{After-keep, After-keep-2}

pub returns-in_err-checked-clause-judged : goal.returns-in_err-checked-clause-judged
unfolding unit_rules
returns-in_err-checked-clause-judged c = hands_back _ (image_rules _ _) _ c.in_err-checked.ensures.judged refl c.from_residual.ensures

-- rules 10 to 12
ranged : (c : After-keep) → c.keep.result ≡ first_broken (image_rules c.args.shelf.now c.args.n ++ address_rule c.args.shelf.now c.args.address ∷ [])
ranged c =
    goes_on _ (image_rules _ _) c.in_ok-checked.ensures.judged refl
    (c.keep.ensures ∙ ap (λ (n : ℕ). first_broken (rule_of (ltb c.args.address n) OutOfRange)) (rw c.in_ok-checked.ensures.passed at c.addresses.ensures))

pub returns-in_err-keep-clause-judged : goal.returns-in_err-keep-clause-judged
unfolding unit_rules
returns-in_err-keep-clause-judged c =
    hands_back _ (image_rules _ _ ++ address_rule c.args.shelf.now c.args.address ∷ []) _ (ranged (goal.at.returns-in_err-keep-clause-judged c).After-keep) c.in_err-keep.was c.from_residual-in_err-keep.ensures

-- the buffer is to have one unit
judged : (c : After-keep-2) → c.keep-2.result ≡ first_broken (unit_rules c.args.shelf.now c.args.n c.args.address c.args.m)
unfolding unit_rules
judged c =
    goes_on _ (image_rules _ _ ++ address_rule c.args.shelf.now c.args.address ∷ []) (ranged (goal.at.After-keep-2 c).After-keep) c.in_ok-keep.was
    (c.keep-2.ensures ∙ ap (λ (n : ℕ). first_broken (rule_of (eqb c.args.m n) OtherBuffer)) (rw c.in_ok-checked.ensures.passed at c.unit_size.ensures ∙ sym (one-mul _)))

pub returns-in_err-keep-2-clause-judged : goal.returns-in_err-keep-2-clause-judged
returns-in_err-keep-2-clause-judged c =
    hands _ (judged (goal.at.returns-in_err-keep-2-clause-judged c).After-keep-2) c.in_err-keep-2.was c.from_residual-in_err-keep-2.ensures

pub returns-clause-judged : goal.returns-clause-judged
returns-clause-judged c = sym c.in_ok-keep-2.was ∙ judged (goal.at.returns-clause-judged c).After-keep-2
