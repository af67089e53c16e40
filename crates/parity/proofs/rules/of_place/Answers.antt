-- `parity::rules::of_place` meets its contract: the rules of an image, then rule after rule. Assumes nothing.
use mathlib.Core.Path.{◌≡◌, refl, sym, ap, ◌∙◌}
use mathlib.Core.Bool.{Bool}
use mathlib.Core.List.{[], ◌∷◌, ◌++◌}
use Prim.Native.Nat.{ℕ, ◌<◌}
use lib.Dec.{ltb}
use borrow.Author.Tests.{ltb-true}
use Rattle.design.specs.declared.Refusal.TheVariants.{OutOfRange, SomeLost}
use Rattle.design.specs.Refusals.{first_broken}
use Rattle.design.proofs.Counting.{both}
use Rattle.parity.specs.Stripe.{depth, present}
use Rattle.parity.specs.Calls.{disk_rule, place_rule, place_rules}
use Rattle.parity.specs.inner.Judged.{image_rules, rule_of}
use Rattle.parity.proofs.Accepted.{rule_kept}
use Rattle.parity.proofs.Verdicts.{hands, hands_back, goes_on, two_as_one}
use Rattle.parity.proofs.rules.of_place.Goals as goal
use Rattle.parity.proofs.rules.of_place.Goals.{After-keep, After-keep-2, In_ok-keep-2, After-keep-3}

pub returns-in_err-checked-clause-judged : goal.returns-in_err-checked-clause-judged
unfolding place_rules
returns-in_err-checked-clause-judged c = hands_back _ (image_rules _ _) _ c.in_err-checked.ensures.judged refl c.from_residual.ensures

-- the disk is one of the shelf
numbered : (c : After-keep) → c.keep.result ≡ first_broken (image_rules c.args.shelf.now c.args.n ++ disk_rule c.args.shelf.now c.args.disk ∷ [])
numbered c = goes_on _ (image_rules _ _) c.in_ok-checked.ensures.judged refl c.keep.ensures

pub returns-in_err-keep-clause-judged : goal.returns-in_err-keep-clause-judged
unfolding place_rules
returns-in_err-keep-clause-judged c =
    let args = c.args in
    let h = args.shelf.now in
    let refused = c.in_err-keep.was in
    let both-judged = hands_back (record { refusal = OutOfRange; kept = ltb args.offset (depth h) } ∷ []) (image_rules h args.n ++ disk_rule h args.disk ∷ []) _ (numbered (goal.at.returns-in_err-keep-clause-judged c).After-keep) refused c.from_residual-in_err-keep.ensures
    ∙ two_as_one (image_rules h args.n) OutOfRange (ltb args.disk h.v) (ltb args.offset (depth h)) in
    hands_back _ (image_rules h args.n ++ place_rule h args.disk args.offset ∷ []) _ both-judged (hands _ refl refl c.from_residual-in_err-keep.ensures) c.from_residual-in_err-keep.ensures

-- the place is in range: a rule of the disk and one of the offset
ranged : (c : After-keep-2) → let args = c.args in
    c.keep-2.result ≡ first_broken (image_rules args.shelf.now args.n ++ place_rule args.shelf.now args.disk args.offset ∷ [])
ranged c =
    goes_on _ (image_rules _ _ ++ disk_rule c.args.shelf.now c.args.disk ∷ []) (numbered (goal.at.After-keep-2 c).After-keep) c.in_ok-keep.was
    (c.keep-2.ensures ∙ ap (λ (n : ℕ). first_broken (rule_of (ltb c.args.offset n) OutOfRange)) (rw c.in_ok-checked.ensures.passed at c.offsets.ensures))
    ∙ two_as_one (image_rules _ _) _ _ _

pub returns-in_err-keep-2-clause-judged : goal.returns-in_err-keep-2-clause-judged
unfolding place_rules
returns-in_err-keep-2-clause-judged c =
    hands_back _ (image_rules _ _ ++ place_rule c.args.shelf.now c.args.disk c.args.offset ∷ []) _ (ranged (goal.at.returns-in_err-keep-2-clause-judged c).After-keep-2) c.in_err-keep-2.was c.from_residual-in_err-keep-2.ensures

-- the place is one of the shelf
within : (c : In_ok-keep-2) → let args = c.args in
    (args.disk < args.shelf.now.v) × (args.offset < depth args.shelf.now)
within c =
    let args = c.args in
    let h = args.shelf.now in
    let kept = ((rule_kept _ _).0 ((rule_kept _ _).0 ((rule_kept _ _).0 (sym (ranged (goal.at.In_ok-keep-2 c).After-keep-2) ∙ c.in_ok-keep-2.was)).1).1).0 in
    let both-kept = both (ltb args.disk h.v) (ltb args.offset (depth h)) kept in
    (ltb-true _ _ both-kept.0, ltb-true _ _ both-kept.1)

pub unit_at-unit-requires : goal.unit_at-unit-requires
unit_at-unit-requires c = rw c.in_ok-checked.ensures.passed (within c)

-- whether the unit is present is asked once the place is known to be one
judged : (c : After-keep-3) → c.keep-3.result ≡ first_broken (place_rules c.args.shelf.now c.args.n c.args.disk c.args.offset)
unfolding place_rules
judged c =
    goes_on _ (image_rules _ _ ++ place_rule c.args.shelf.now c.args.disk c.args.offset ∷ []) (ranged (goal.at.After-keep-3 c).After-keep-2) c.in_ok-keep-2.was
    (c.keep-3.ensures ∙ ap (λ (k : Bool). first_broken (rule_of k SomeLost)) (rw c.in_ok-checked.ensures.passed at (c.is_present.ensures ∙ ap (present c.in_ok-checked.checked.shelf.now) c.unit_at-unit.ensures)))

pub returns-in_err-keep-3-clause-judged : goal.returns-in_err-keep-3-clause-judged
returns-in_err-keep-3-clause-judged c =
    hands _ (judged (goal.at.returns-in_err-keep-3-clause-judged c).After-keep-3) c.in_err-keep-3.was c.from_residual-in_err-keep-3.ensures

pub returns-clause-judged : goal.returns-clause-judged
returns-clause-judged c = sym c.in_ok-keep-3.was ∙ judged (goal.at.returns-clause-judged c).After-keep-3
