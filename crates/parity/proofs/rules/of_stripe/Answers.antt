-- `parity::rules::of_stripe` meets its contract: rule after rule, in the order of their numbers. Assumes nothing.
use mathlib.Core.Path.{◌≡◌, refl, sym, ap, ◌∙◌}
use mathlib.Core.Bool.{true}
use mathlib.Core.List.{[], ◌∷◌, ◌++◌}
use Prim.Native.Nat.{ℕ, ◌-◌, ◌*◌}
use native.Mathlib.Omega.{arith}
use lib.Dec.{ltb, eqb}
use Rattle.design.specs.declared.Refusal.TheVariants.{OutOfRange, OtherBuffer}
use Rattle.design.specs.Refusals.{first_broken}
use Rattle.design.specs.Shelf.{is_shelf}
use Rattle.design.proofs.ShelfTests.{shelf_parts}
use Rattle.parity.specs.Stripe.{unit_size}
use Rattle.parity.specs.Calls.{stripe_rule, stripe_rules}
use Rattle.parity.specs.inner.Judged.{image_rules, rule_of}
use Rattle.parity.proofs.Sized.{stripe_size_most}
use Rattle.parity.proofs.Verdicts.{hands, hands_back, goes_on}
use Rattle.parity.proofs.rules.of_stripe.Goals as goal
use Rattle.parity.proofs.rules.of_stripe.Goals.{In_ok-checked, After-keep, After-unit_size, After-keep-2}

passed : (c : In_ok-checked) → is_shelf c.args.shelf.now ≡ true
passed c = rw c.in_ok-checked.ensures.passed at c.in_ok-checked.checked.passed

size : (c : After-unit_size) → c.unit_size.result ≡ unit_size c.args.shelf.now
size c = rw c.in_ok-checked.ensures.passed at c.unit_size.ensures

pub returns-in_err-checked-clause-judged : goal.returns-in_err-checked-clause-judged
unfolding stripe_rules
returns-in_err-checked-clause-judged c = hands_back _ (image_rules _ _) _ c.in_err-checked.ensures.judged refl c.from_residual.ensures

-- rules 10 to 12
ranged : (c : After-keep) → c.keep.result ≡ first_broken (image_rules c.args.shelf.now c.args.n ++ stripe_rule c.args.shelf.now c.args.stripe ∷ [])
ranged c =
    goes_on _ (image_rules _ _) c.in_ok-checked.ensures.judged refl
    (c.keep.ensures ∙ ap (λ (n : ℕ). first_broken (rule_of (ltb c.args.stripe n) OutOfRange)) (rw c.in_ok-checked.ensures.passed at c.stripes.ensures))

pub returns-in_err-keep-clause-judged : goal.returns-in_err-keep-clause-judged
unfolding stripe_rules
returns-in_err-keep-clause-judged c =
    hands_back _ (image_rules _ _ ++ stripe_rule c.args.shelf.now c.args.stripe ∷ []) _ (ranged (goal.at.returns-in_err-keep-clause-judged c).After-keep) c.in_err-keep.was c.from_residual-in_err-keep.ensures

pub overflow_sub-shelf : goal.overflow_sub-shelf
overflow_sub-shelf c = omega (arith, (shelf_parts _ (passed (goal.at.overflow_sub-shelf c).In_ok-checked)).limits.k_least)

pub overflow_mul-shelf : goal.overflow_mul-shelf
overflow_mul-shelf c =
    rw (size (goal.at.overflow_mul-shelf c).After-unit_size) (omega (arith, stripe_size_most _ (passed (goal.at.overflow_mul-shelf c).In_ok-checked)))

-- the buffer is to have the k - 1 data units
judged : (c : After-keep-2) → c.keep-2.result ≡ first_broken (stripe_rules c.args.shelf.now c.args.n c.args.stripe c.args.m)
unfolding stripe_rules
judged c =
    goes_on _ (image_rules _ _ ++ stripe_rule c.args.shelf.now c.args.stripe ∷ []) (ranged (goal.at.After-keep-2 c).After-keep) c.in_ok-keep.was
    (c.keep-2.ensures ∙ ap (λ (n : ℕ). first_broken (rule_of (eqb c.args.m ((c.args.shelf.now.k - 1) * n)) OtherBuffer)) (size (goal.at.After-keep-2 c).After-unit_size))

pub returns-in_err-keep-2-clause-judged : goal.returns-in_err-keep-2-clause-judged
returns-in_err-keep-2-clause-judged c =
    hands _ (judged (goal.at.returns-in_err-keep-2-clause-judged c).After-keep-2) c.in_err-keep-2.was c.from_residual-in_err-keep-2.ensures

pub returns-clause-judged : goal.returns-clause-judged
returns-clause-judged c = sym c.in_ok-keep-2.was ∙ judged (goal.at.returns-clause-judged c).After-keep-2
