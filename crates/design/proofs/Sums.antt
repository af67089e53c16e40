-- Laws of sums over the numbers below n, and of counts as sums of ones. Assumes nothing.
use mathlib.Core.Path.{◌≡◌, refl, sym, ap, ap₂, ◌∙◌}
use mathlib.Core.Logic.{◌⊎◌, inl, inr, ◌≢◌}
use mathlib.Core.Bool.{Bool, true, false, cond, ◌&&◌}
use Prim.Native.Nat.{ℕ, zero, suc, ◌+◌, ◌*◌, ◌≤◌, ◌<◌}
use native.Mathlib.Nat.{zero-mul}
use native.Mathlib.Numerals.{add-one}
use native.Mathlib.Omega.{arith}
use lib.Dec.{ltb, eqb}
use borrow.Author.Tests.{lt-ltb, ltb-true, ltb-false, eqb-true, eqb-false, ne_eqb}
use Rattle.design.specs.Count.{count, nth}
use Rattle.design.proofs.Counting.{decided, count-lt, count_none, nth_is}

unfoldable pub sum : (ℕ → ℕ) → ℕ → ℕ
sum f zero = zero
sum f (suc n) = sum f n + f n

pub sum_ext : (f g : ℕ → ℕ) (n : ℕ) → ((i : ℕ) → i < n → f i ≡ g i) → sum f n ≡ sum g n
unfolding sum
sum_ext f g zero h = refl
sum_ext f g (suc n) h = ap₂ ◌+◌ (sum_ext f g n (λ i l. h i (omega arith))) (h n (omega arith))

pub sum_const : (c n : ℕ) → sum (λ i. c) n ≡ n * c
unfolding sum
sum_const c zero = sym (zero-mul c)
sum_const c (suc n) = omega (arith, sum_const c n)

pub sum_plus : (f g : ℕ → ℕ) (n : ℕ) → sum (λ i. f i + g i) n ≡ sum f n + sum g n
unfolding sum
sum_plus f g zero = refl
sum_plus f g (suc n) = omega (arith, sum_plus f g n)

pub sum-mul : (c : ℕ) (f : ℕ → ℕ) (n : ℕ) → sum (λ i. c * f i) n ≡ c * sum f n
unfolding sum
sum-mul c f zero = omega arith
sum-mul c f (suc n) = omega (arith, sum-mul c f n)

-- the order of two sums is free
pub sum_swap : (f : ℕ → ℕ → ℕ) (m n : ℕ) → sum (λ i. sum (λ j. f i j) n) m ≡ sum (λ j. sum (λ i. f i j) m) n
unfolding sum
sum_swap f zero n = sym (sum_const 0 n ∙ omega arith)
sum_swap f (suc m) n =
    ap (λ (x : ℕ). x + sum (λ j. f m j) n) (sum_swap f m n) ∙ sym (sum_plus (λ j. sum (λ i. f i j) m) (λ j. f m j) n)

-- none of n terms is x, all are y
sum_none : (x y d n : ℕ) → n ≤ d → sum (λ e. cond (eqb e d) x y) n ≡ n * y
sum_none x y d n h = sum_ext (λ e. cond (eqb e d) x y) (λ e. y) n other ∙ sum_const y n
  where
    other : (e : ℕ) → e < n → cond (eqb e d) x y ≡ y
    other e l = let ne : e ≢ d = omega arith in rw (ne_eqb e d ne)

-- one of n terms is x, the others are y
pub sum_one : (x y d n : ℕ) → d < n → sum (λ e. cond (eqb e d) x y) n + y ≡ x + n * y
unfolding sum
sum_one x y d zero h = absurd (omega arith)
sum_one x y d (suc n) h = go (decided (eqb n d)) (sum_one x y d n)
  where
    go : (eqb n d ≡ true) ⊎ (eqb n d ≡ false) → (d < n → sum (λ e. cond (eqb e d) x y) n + y ≡ x + n * y)
        → sum (λ e. cond (eqb e d) x y) n + cond (eqb n d) x y + y ≡ x + suc n * y
    go (inl e) r =
        let q : cond (eqb n d) x y ≡ x = rw e in
        omega (arith, q, sum_none x y d n (omega (arith, eqb-true n d e)))
    go (inr e) r =
        let q : cond (eqb n d) x y ≡ y = rw e in
        let ne : n ≢ d = eqb-false n d e in
        omega (arith, q, r (omega arith))

-- ---- counts

-- one number more
count_more : (f : ℕ → Bool) (n : ℕ) → count f (suc n) ≡ count f n + cond (f n) 1 0
unfolding count
count_more f n = go (f n)
  where
    go : (b : Bool) → cond b (suc (count f n)) (count f n) ≡ count f n + cond b 1 0
    go true = omega arith
    go false = omega arith

-- a loop's step
pub count_next : (f : ℕ → Bool) (n : ℕ) → count f (n + 1) ≡ count f n + cond (f n) 1 0
count_next f n = rw add-one (count_more f n)

-- a count is a sum of ones
pub count-sum : (f : ℕ → Bool) (n : ℕ) → count f n ≡ sum (λ i. cond (f i) 1 0) n
unfolding count sum
count-sum f zero = refl
count-sum f (suc n) = count_more f n ∙ ap (λ (m : ℕ). m + cond (f n) 1 0) (count-sum f n)

-- pairs are counted by either of the two
pub count_swap : (f : ℕ → ℕ → Bool) (m n : ℕ) → sum (λ i. count (λ j. f i j) n) m ≡ sum (λ j. count (λ i. f i j) m) n
count_swap f m n =
    sum_ext _ _ m (λ i l. count-sum (λ j. f i j) n)
    ∙ sum_swap (λ i j. cond (f i j) 1 0) m n
    ∙ sym (sum_ext _ _ n (λ j l. count-sum (λ i. f i j) m))

-- at most one number passes
pub count_most_one : (f : ℕ → Bool) (n : ℕ) → ((i j : ℕ) → i < n → j < n → f i ≡ true → f j ≡ true → i ≡ j) → count f n ≡ cond (ltb 0 (count f n)) 1 0
count_most_one f n one = go (decided (ltb 1 (count f n))) (decided (ltb 0 (count f n)))
  where
    go : (ltb 1 (count f n) ≡ true) ⊎ (ltb 1 (count f n) ≡ false) → (ltb 0 (count f n) ≡ true) ⊎ (ltb 0 (count f n) ≡ false)
        → count f n ≡ cond (ltb 0 (count f n)) 1 0
    go (inl x) y =
        let l : 1 < count f n = ltb-true 1 (count f n) x in
        let p = nth_is f n 0 (omega arith) in
        let q = nth_is f n 1 l in
        absurd (omega (arith, p.rank, q.rank, ap (count f) (one (nth f n 0) (nth f n 1) p.below q.below p.passes q.passes)))
    go (inr x) (inl y) = rw y (omega (arith, ltb-false 1 (count f n) x, ltb-true 0 (count f n) y))
    go (inr x) (inr y) = rw y (omega (arith, ltb-false 0 (count f n) y))

-- one number passes
pub count_unique : (f : ℕ → Bool) (n i : ℕ) → i < n → f i ≡ true → ((j : ℕ) → j < n → f j ≡ true → j ≡ i) → count f n ≡ 1
count_unique f n i h e one =
    let l : 0 < count f n = omega (arith, count-lt f i n h e) in
    count_most_one f n (λ j j' hj hj' a b. one j hj a ∙ sym (one j' hj' b)) ∙ ap (λ (b : Bool). cond b 1 0) (lt-ltb 0 (count f n) l)

-- a test beside one that does not look at the number
pub count_both : (b : Bool) (g : ℕ → Bool) (n : ℕ) → count (λ i. b && g i) n ≡ count g n * cond b 1 0
count_both true g n = omega arith
count_both false g n = count_none (λ i. false) n (λ i l. refl) ∙ omega arith
