-- What a call gives and leaves by its verdict, and that the verdict looks at the length of an image alone. Assumes nothing.
use mathlib.Core.Path.{◌≡◌, refl, sym, ap, ◌∙◌}
use mathlib.Core.List.{List, ◌∷◌}
use Prim.Native.Nat.{ℕ}
use lib.Dec.{eqb}
use lib.ListN.{length}
use Rattle.std.specs.Prelude.{Ok, Err, Result}
use Rattle.design.specs.Loss.{with_loss, disk_loss}
use Rattle.design.proofs.Refused.{verdict_answered}
use Rattle.design.specs.declared.Refusal.{Refusal}
use Rattle.design.specs.declared.Refusal.TheVariants.{OtherImage}
use Rattle.design.specs.declared.Shelf.{Shelf}
use Rattle.design.specs.Refusals.{Verdict, answered, verdict}
use Rattle.design.specs.Refusals.{Rule, first_broken}
use Rattle.design.specs.Shelf.{shelf_rule}
use Rattle.parity.specs.declared.Cost.{Cost}
use Rattle.parity.specs.Stripe.{image_size}
use Rattle.parity.specs.Calls.{image_rule, by, costs, Answered, cost_of, lost, lose_rules}

pub by_accepted : {A : Type 0} {v : Verdict} (x y : A) → v ≡ Ok tt → by v x y ≡ x
unfolding by
by_accepted x y e = rw e

pub by_refused : {A : Type 0} {v : Verdict} {r : Refusal} (x y : A) → v ≡ Err r → by v x y ≡ y
unfolding by
by_refused x y e = rw e

-- what is given if accepted is one
pub by_same : {A : Type 0} (v : Verdict) (x x' y : A) → (v ≡ Ok tt → x ≡ x') → by v x y ≡ by v x' y
unfolding by
by_same (Ok u) x x' y same = same refl
by_same (Err r) x x' y same = refl

pub same_verdict : (h : Shelf) (a b : List ℕ) (rules : List Rule) → length a ≡ length b
    → first_broken (shelf_rule h ∷ image_rule h (length a) ∷ rules) ≡ first_broken (shelf_rule h ∷ image_rule h (length b) ∷ rules)
same_verdict h a b rules e =
    ap (λ (n : ℕ). first_broken (shelf_rule h ∷ record { refusal = OtherImage; kept = eqb n (image_size h) } ∷ rules)) e

-- ---- an answer by its verdict

module _ {A : Type 0} (v : Verdict) (value : A) {answer : Result A Refusal} (is : answer ≡ answered v value) where
  pub answer_verdict : verdict answer ≡ v
  answer_verdict = ap verdict is ∙ verdict_answered v value

  pub answer_accepted : verdict answer ≡ Ok tt → (v ≡ Ok tt) × (answer ≡ Ok value)
  unfolding answered
  answer_accepted e = let a : v ≡ Ok tt = sym answer_verdict ∙ e in (a, rw a at is)

  pub answer_refused : (x : Refusal) → verdict answer ≡ Err x → (v ≡ Err x) × (answer ≡ Err x)
  unfolding answered
  answer_refused x e = let a : v ≡ Err x = sym answer_verdict ∙ e in (a, rw a at is)

pub lost_is : (h : Shelf) (d : ℕ) → lost h d ≡ answered (first_broken (lose_rules h d)) (with_loss h (disk_loss d))
unfolding lost
lost_is h d = refl

pub lost_verdict : (h : Shelf) (d : ℕ) → verdict (lost h d) ≡ first_broken (lose_rules h d)
lost_verdict h d = answer_verdict _ _ (lost_is h d)

-- what the code answers and leaves by a verdict w that it found
module _ {A : Type 0} {w : Verdict} (value : A) {new old : List ℕ} where
  pub refused_answers : {x : Refusal} {answer : Result A Refusal} → w ≡ Err x → answer ≡ Err x → Answered (answered w value) w new old answer old
  unfolding by answered
  refused_answers e p = record { answers = rw (e, p); leaves = rw e }

  pub accepted_answers : {answer : A} {after : List ℕ} → w ≡ Ok tt → answer ≡ value → after ≡ new → Answered (answered w value) w new old (Ok answer) after
  unfolding by answered
  accepted_answers e p q = record { answers = rw (e, p); leaves = rw (e, q) }

-- ---- counts of units

pub record Costs (v : Verdict) (r w : ℕ) (answer : Result Cost Refusal) : Type 0 where
  pub accepted : v ≡ Ok tt
  pub read : (cost_of answer).read ≡ r
  pub written : (cost_of answer).written ≡ w

pub cost_accepted : {v : Verdict} (r w : ℕ) {answer : Result Cost Refusal} → answer ≡ costs v r w → verdict answer ≡ Ok tt → Costs v r w answer
cost_accepted r w is e = let a = answer_accepted _ _ is e in record { accepted = a.0; read = rw a.1; written = rw a.1 }
