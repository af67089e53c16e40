-- Counts of tests that one number at most passes, of a test and its opposite, and of the same things numbered in two ways.
-- Assumes nothing.
use mathlib.Core.Path.{◌≡◌, refl, sym, ap, ◌∙◌}
use mathlib.Core.Logic.{◌≢◌}
use mathlib.Core.Bool.{Bool, true, false, not, cond, ◌&&◌, true≢false}
use Prim.Native.Nat.{ℕ, ◌*◌, zero, suc, ◌+◌, ◌<◌}
use native.Mathlib.Omega.{arith}
use lib.Dec.{eqb}
use borrow.Author.Tests.{eq-eqb, eqb-true, eqb-false}
use Rattle.design.specs.Count.{count}
use Rattle.design.proofs.Counting.{both, fails, count_true, count_false, count_none}
use Rattle.design.proofs.Sums.{sum_ext, count_next, count-sum, count_swap, count_unique, count_both}
use Rattle.parity.proofs.Cases.{cases}

-- only i may pass
pub count-only : (f : ℕ → Bool) (n i : ℕ) → i < n → ((j : ℕ) → j < n → j ≢ i → f j ≡ false) → count f n ≡ cond (f i) 1 0
count-only f n i h none = cases (f i) passes stops
  where
    other : (j : ℕ) → j < n → f j ≡ true → j ≡ i
    other j l t = cases (eqb j i) (λ e. eqb-true j i e) (λ e. absurd (true≢false (sym t ∙ none j l (eqb-false j i e))))

    passes : f i ≡ true → count f n ≡ cond (f i) 1 0
    passes e = rw e (count_unique f n i h e other)

    stops : f i ≡ false → count f n ≡ cond (f i) 1 0
    stops e = rw e (count_none f n (λ j l. fails (f j) (λ t. true≢false (sym t ∙ ap f (other j l t) ∙ e))))

-- only i and the last may pass
pub count_pair : (f : ℕ → Bool) (n i : ℕ) → i < n → ((j : ℕ) → j < n → j ≢ i → f j ≡ false) → count f (n + 1) ≡ cond (f i) 1 0 + cond (f n) 1 0
count_pair f n i h none = count_next f n ∙ ap (λ (m : ℕ). m + cond (f n) 1 0) (count-only f n i h none)

pub count-one : (n i : ℕ) → i < n → count (λ j. eqb j i) n ≡ 1
count-one n i h = count_unique (λ j. eqb j i) n i h (eq-eqb i i refl) (λ j l e. eqb-true j i e)

-- those that pass and those that do not
pub count-rest : (f : ℕ → Bool) (n : ℕ) → count f n + count (λ i. not (f i)) n ≡ n
unfolding count
count-rest f zero = refl
count-rest f (suc n) = next (count-rest f n)
  where
    next : count f n + count (λ i. not (f i)) n ≡ n → count f (suc n) + count (λ i. not (f i)) (suc n) ≡ suc n
    next r = cases (f n)
        (λ e. omega (arith, r, count_true f n e, count_false (λ i. not (f i)) n (ap not e)))
        (λ e. omega (arith, r, count_false f n e, count_true (λ i. not (f i)) n (ap not e)))

-- the i below m that pass g stand at places below n, and those are what passes f
module _ (f g : ℕ → Bool) (place back : ℕ → ℕ) (m n : ℕ) (below : (i : ℕ) → i < m → place i < n) (back_below : (j : ℕ) → j < n → back j < m)
    (undone : (i : ℕ) → i < m → back (place i) ≡ i) (tests : (j : ℕ) → j < n → f j ≡ (g (back j) && eqb (place (back j)) j)) where
  at_place : (j : ℕ) → j < n → count (λ i. g i && eqb (place i) j) m ≡ cond (f j) 1 0
  at_place j l =
      count-only (λ i. g i && eqb (place i) j) m (back j) (back_below j l)
      (λ i u ne. fails _ (λ t. ne (sym (undone i u) ∙ ap back (eqb-true (place i) j (both (g i) (eqb (place i) j) t).1))))
      ∙ ap (λ (b : Bool). cond b 1 0) (sym (tests j l))

  one_place : (i : ℕ) → i < m → count (λ j. eqb (place i) j) n ≡ 1
  one_place i l =
      count_unique (λ j. eqb (place i) j) n (place i) (below i l) (eq-eqb (place i) (place i) refl) (λ j u e. sym (eqb-true (place i) j e))

  pub count-placed : count f n ≡ count g m
  count-placed =
      count-sum f n
      ∙ sum_ext _ _ n (λ j l. sym (at_place j l))
      ∙ count_swap (λ j i. g i && eqb (place i) j) n m
      ∙ sum_ext _ _ m (λ i l. count_both (g i) (λ j. eqb (place i) j) n ∙ ap (λ (x : ℕ). x * cond (g i) 1 0) (one_place i l) ∙ omega arith)
      ∙ sym (count-sum g m)
