-- The first broken rule of a list, found by trying rule after rule. Assumes nothing.
use mathlib.Core.Path.{◌≡◌, refl, sym, ap, ◌∙◌}
use mathlib.Core.Bool.{Bool, true, false, ◌&&◌}
use mathlib.Core.List.{List, [], ◌∷◌, ◌++◌}
use Prim.Native.Nat.{ℕ}
use native.Mathlib.Omega.{arith}
use Rattle.std.specs.Prelude.{Result, Ok, Err, IsErr, IsErrAnd}
use Rattle.design.proofs.Refused.{handed_err}
use Rattle.design.specs.declared.Refusal.{Refusal}
use Rattle.design.specs.declared.Refusal.TheVariants.{NotAShelf}
use Rattle.design.specs.declared.Shelf.{Shelf}
use Rattle.design.specs.Refusals.{Verdict, Rule, first_broken, verdict}
use Rattle.design.specs.Shelf.{is_shelf, shelf_rule}
use Rattle.parity.specs.Calls.{by}
use Rattle.parity.specs.inner.Judged.{rule_of}
use Rattle.parity.proofs.Cases.{cases}
use Rattle.parity.proofs.Accepted.{rule_kept}

-- a refusal v of the rules, which `?` hands on
pub hands : {A : Type 0} {v r : Verdict} (w : Result A Refusal) {x : Refusal} → v ≡ r → v ≡ Err x → IsErr w × IsErrAnd w (λ (y : Refusal). y ≡ x) → verdict w ≡ r
hands w judged is handed = ap verdict (handed_err _ handed) ∙ sym is ∙ judged

-- ---- rule after rule

-- the first rules of a list: none of them is broken, or one is
module _ (rest : List Rule) where
  past_all : (first : List Rule) {v : Verdict} → first_broken first ≡ Ok tt → v ≡ first_broken rest → v ≡ first_broken (first ++ rest)
  unfolding first_broken
  past_all [] a e = e
  past_all (x ∷ first) a e = let p = (rule_kept x first).0 a in rw p.0 (past_all first p.1 e)

  broken_within : (first : List Rule) {x : Refusal} → first_broken first ≡ Err x → first_broken first ≡ first_broken (first ++ rest)
  unfolding first_broken
  broken_within [] e = let z : ◌≡◌ {A = ℕ} 0 1 = cc in absurd (omega arith)
  broken_within (y ∷ first) e = cases y.kept (λ t. rw t (broken_within first (rw t at e))) (λ t. rw t)

  -- the first rules gave v: a refusal, which `?` hands on, or else the verdict of the others is the call's
  pub hands_on : (first : List Rule) {v w : Verdict} {x : Refusal} → v ≡ first_broken first → v ≡ Err x → IsErr w × IsErrAnd w (λ (y : Refusal). y ≡ x)
      → w ≡ first_broken (first ++ rest)
  hands_on first judged is handed = handed_err _ handed ∙ sym is ∙ judged ∙ broken_within first (sym judged ∙ is)

  pub hands_back : {A : Type 0} (first : List Rule) {v : Verdict} (w : Result A Refusal) {x : Refusal} → v ≡ first_broken first → v ≡ Err x
      → IsErr w × IsErrAnd w (λ (y : Refusal). y ≡ x) → verdict w ≡ first_broken (first ++ rest)
  hands_back first w judged is handed = hands w judged is handed ∙ broken_within first (sym judged ∙ is)

  pub goes_on : (first : List Rule) {v w : Verdict} → v ≡ first_broken first → v ≡ Ok tt → w ≡ first_broken rest → w ≡ first_broken (first ++ rest)
  goes_on first judged is next = past_all first (sym judged ∙ is) next

-- rule 10, when the shelf has passed it and when not
pub shelf_judged : (h : Shelf) → is_shelf h ≡ true → Ok tt ≡ first_broken (shelf_rule h ∷ [])
unfolding first_broken
shelf_judged h e = rw e

pub shelf_broken : (h : Shelf) (rules : List Rule) → is_shelf h ≡ false → Err NotAShelf ≡ first_broken (shelf_rule h ∷ rules)
unfolding first_broken
shelf_broken h rules e = rw e

-- two rules with one refusal are one rule
pub two_as_one : (first : List Rule) (r : Refusal) (a b : Bool)
    → first_broken (first ++ record { refusal = r; kept = a } ∷ record { refusal = r; kept = b } ∷ []) ≡ first_broken (first ++ record { refusal = r; kept = a && b } ∷ [])
unfolding first_broken
two_as_one [] r a b = cases a (λ t. rw t) (λ t. rw t)
two_as_one (y ∷ first) r a b = cases y.kept (λ t. rw t (two_as_one first r a b)) (λ t. rw t)

-- ---- the rules so far, and one more: whether that one is kept matters only where the others are

-- the verdict of the rules so far and of one more
abbrev pub following : Verdict → Bool → Refusal → Verdict
following v kept refusal = by v (first_broken (rule_of kept refusal)) v

module _ (x : Rule) where
  after-all : (first : List Rule) → following (first_broken first) x.kept x.refusal ≡ first_broken (first ++ x ∷ [])
  unfolding first_broken by
  after-all [] = refl
  after-all (y ∷ first) = cases y.kept (λ t. rw t (after-all first)) (λ t. rw t)

  following_kept : (v : Verdict) (k : Bool) → (v ≡ Ok tt → k ≡ x.kept) → following v k x.refusal ≡ following v x.kept x.refusal
  unfolding by
  following_kept (Ok tt) k same = ap (λ (t : Bool). following (Ok tt) t x.refusal) (same refl)
  following_kept (Err r) k same = refl

  pub also_rule : (first : List Rule) {v : Verdict} {k : Bool} → v ≡ first_broken first → (first_broken first ≡ Ok tt → k ≡ x.kept)
      → following v k x.refusal ≡ first_broken (first ++ x ∷ [])
  also_rule first {v} {k} e same =
      ap (λ (w : Verdict). following w k x.refusal) e ∙ following_kept (first_broken first) k same ∙ after-all first
