-- Counts over numbers of two digits: rows of n numbers each, and counts through `nth`. Assumes nothing.
use mathlib.Core.Path.{◌≡◌, refl, ap, ap₂, ◌∙◌}
use mathlib.Core.Logic.{◌⊎◌, inl, inr}
use mathlib.Core.Bool.{Bool, true, false, ◌&&◌}
use Prim.Native.Nat.{ℕ, zero, suc, ◌+◌, ◌*◌, ◌%◌, ◌≤◌, ◌<◌}
use native.Mathlib.Nat.{suc-mul, zero-mul}
use native.Mathlib.Omega.{arith}
use lib.Arith.{digits_mod}
use borrow.Author.Tests.{lt-ltb, le-ltb}
use Rattle.design.specs.Count.{count, nth}
use Rattle.design.proofs.Counting.{decided, count_ext, count_add}
use Rattle.design.proofs.Sums.{sum, sum_ext, sum_const}

-- ---- g rows of n numbers

pub count_rows : (f : ℕ → Bool) (n g : ℕ) → count f (g * n) ≡ sum (λ i. count (λ m. f (i * n + m)) n) g
unfolding count sum
count_rows f n zero = rw zero-mul
count_rows f n (suc g) =
    ap (count f) (suc-mul g n) ∙ count_add f (g * n) n ∙ ap (λ (x : ℕ). x + count (λ m. f (g * n + m)) n) (count_rows f n g)

module _ (f : ℕ → Bool) (n : ℕ) where
  -- a row of a test that looks at the last digit, up to m
  one_row : (g m : ℕ) → m ≤ n → count (λ i. f ((g * n + i) % n)) m ≡ count f m
  one_row g m h = count_ext _ f m (λ i l. let u : i < n = omega arith in ap f (digits_mod g u))

  pub count-digit : (g : ℕ) → count (λ i. f (i % n)) (g * n) ≡ g * count f n
  count-digit g =
      count_rows (λ i. f (i % n)) n g ∙ sum_ext _ (λ i. count f n) g (λ i l. one_row i n (omega arith)) ∙ sum_const (count f n) g

  pub count_digits : (g m : ℕ) → m ≤ n → count (λ i. f (i % n)) (g * n + m) ≡ g * count f n + count f m
  count_digits g m h = count_add (λ i. f (i % n)) (g * n) m ∙ ap₂ ◌+◌ (count-digit g) (one_row g m h)

-- ---- of those that pass f, as many pass g

module _ (f g : ℕ → Bool) where
  earlier-nth : (n m : ℕ) → m < count f n → nth f (suc n) m ≡ nth f n m
  unfolding nth
  earlier-nth n m h = rw (lt-ltb m (count f n) h, nth)

  last_nth : (n : ℕ) → nth f (suc n) (count f n) ≡ n
  unfolding nth
  last_nth n = let h : count f n ≤ count f n = omega arith in rw (le-ltb (count f n) (count f n) h, nth)

  pub count-nth : (n : ℕ) → count (λ m. g (nth f n m)) (count f n) ≡ count (λ i. f i && g i) n
  unfolding count
  count-nth zero = refl
  count-nth (suc n) = go (decided (f n)) (count_ext _ _ (count f n) (λ m l. ap g (earlier-nth n m l)) ∙ count-nth n)
    where
      go : (f n ≡ true) ⊎ (f n ≡ false) → count (λ m. g (nth f (suc n) m)) (count f n) ≡ count (λ i. f i && g i) n
          → count (λ m. g (nth f (suc n) m)) (count f (suc n)) ≡ count (λ i. f i && g i) (suc n)
      go (inl e) ih = rw e (rw (last_nth n, ih))
      go (inr e) ih = rw e ih
