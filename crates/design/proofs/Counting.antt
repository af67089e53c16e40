-- Laws of tests over the numbers below n: `every`, `count`, `nth`, and lists given entry by entry. Assumes nothing.
use mathlib.Core.Path.{◌≡◌, refl, sym, ap, ap₂, ◌∙◌}
use mathlib.Core.Logic.{◌⊎◌, inl, inr, ◌≢◌}
use mathlib.Core.Bool.{Bool, true, false, cond, ◌&&◌, true≢false}
use Prim.Native.Nat.{ℕ, zero, suc, ◌+◌, ◌≤◌, ◌<◌}
use native.Mathlib.Nat.{zero-add, le_of_suc-le-suc, eq-or-lt_of_le, add-zero, add-suc}
use native.Mathlib.Numerals.{add-one}
use native.Mathlib.Omega.{arith}
use lib.Dec.{ltb, eqb}
use lib.ListN.{length, get_or}
use mathlib.Core.List.{List}
use Rattle.std.specs.Bool.{MatchBool}
use Rattle.std.specs.List.{list_all, range_with_len, AllWithin, HoldsAt}
use Rattle.std.proofs.lemmas.List.FromFn.{length-range_with_len, get_or-range_with_len}
use Rattle.std.proofs.lemmas.List.{get_or_default}
use Rattle.std.proofs.lemmas.List.Sums.{AllPass-from_list_all, list_all-from_AllPass}
use borrow.Author.Tests.{ltb-true, ltb-false, eqb-true, eqb-false}
use Rattle.design.specs.Count.{count, every, nth, list_from}

pub decided : (b : Bool) → (b ≡ true) ⊎ (b ≡ false)
decided true = inl refl
decided false = inr refl

pub both : (x y : Bool) → (x && y) ≡ true → (x ≡ true) × (y ≡ true)
both true y e = (refl, e)
both false y e = absurd (true≢false (sym e))

pub both_of : {x y : Bool} → x ≡ true → y ≡ true → (x && y) ≡ true
both_of p q = ap₂ ◌&&◌ p q

-- a test that cannot pass fails
pub fails : (b : Bool) → (b ≡ true → ⊥) → b ≡ false
fails true h = absurd (h refl)
fails false h = refl

-- two tests that pass alike are one
pub alike : (x y : Bool) → (x ≡ true → y ≡ true) → (y ≡ true → x ≡ true) → x ≡ y
alike true y f g = sym (f refl)
alike false y f g = sym (fails y (λ e. true≢false (sym (g e))))

-- ---- every

pub every-at : (n : ℕ) (f : ℕ → Bool) → every n f ≡ true → (i : ℕ) → i < n → f i ≡ true
unfolding every
every-at zero f e i h = absurd (omega arith)
every-at (suc n) f e i h = go (decided (eqb i n)) (every-at n f (both (every n f) (f n) e).0 i)
  where
    go : (eqb i n ≡ true) ⊎ (eqb i n ≡ false) → (i < n → f i ≡ true) → f i ≡ true
    go (inl p) r = ap f (eqb-true i n p) ∙ (both (every n f) (f n) e).1
    go (inr p) r = let ne : i ≢ n = eqb-false i n p in r (omega arith)

pub every_of : (n : ℕ) (f : ℕ → Bool) → ((i : ℕ) → i < n → f i ≡ true) → every n f ≡ true
unfolding every
every_of zero f h = refl
every_of (suc n) f h = both_of (every_of n f (λ i l. h i (omega arith))) (h n (omega arith))

-- one that fails is enough
pub every_not : (n : ℕ) (f : ℕ → Bool) (i : ℕ) → i < n → f i ≡ false → every n f ≡ false
every_not n f i h e = fails (every n f) (λ t. true≢false (sym (every-at n f t i h) ∙ e))

pub every_more : (n : ℕ) (f : ℕ → Bool) → every n f ≡ true → f n ≡ true → every (suc n) f ≡ true
unfolding every
every_more n f e l = both_of e l

pub every_ext : (n : ℕ) (f g : ℕ → Bool) → ((i : ℕ) → i < n → f i ≡ g i) → every n f ≡ every n g
unfolding every
every_ext zero f g h = refl
every_ext (suc n) f g h = ap₂ ◌&&◌ (every_ext n f g (λ i l. h i (omega arith))) (h n (omega arith))

-- what tests one number after another, and stops at the first that fails
pub every_tested : (n : ℕ) (f : ℕ → Bool) (r : Bool) → MatchBool r ((i : ℕ) → i < n → f i ≡ true) ((i : ℕ) × (i < n) × (f i ≡ false)) → r ≡ every n f
every_tested n f true h = sym (every_of n f h)
every_tested n f false h = sym (every_not n f h.0 h.1 h.2)

-- the same where a chain over a range says it
pub every_ranged : (n : ℕ) (f : ℕ → Bool) (r : Bool) → (let l = range_with_len 0 n in
    MatchBool r (AllWithin (λ i. f i ≡ true) l 0 (length l)) ((k : ℕ) × (k < length l) × HoldsAt (λ i. f i ≡ false) l k)) → r ≡ every n f
every_ranged n f r h = every_tested n f r (go r h)
  where
    go : (r : Bool) → (let l = range_with_len 0 n in
        MatchBool r (AllWithin (λ i. f i ≡ true) l 0 (length l)) ((k : ℕ) × (k < length l) × HoldsAt (λ i. f i ≡ false) l k))
        → MatchBool r ((i : ℕ) → i < n → f i ≡ true) ((i : ℕ) × (i < n) × (f i ≡ false))
    go true h = λ i l. ap f (sym (get_or-range_with_len 0 n i 0 l ∙ zero-add i)) ∙ h i 0 (omega arith) (omega (arith, length-range_with_len 0 n))
    go false (k, l, h) =
        let m : k < n = omega (arith, length-range_with_len 0 n) in
        (k, m, ap f (sym (get_or-range_with_len 0 n k 0 m ∙ zero-add k)) ∙ h 0)

-- each entry of a list passes
pub every_listed : (p : ℕ → Bool) (xs : List ℕ) → list_all p xs ≡ every (length xs) (λ i. p (get_or xs i 0))
every_listed p xs =
    alike (list_all p xs) (every (length xs) (λ i. p (get_or xs i 0)))
    (λ e. every_of (length xs) _ (λ i l. AllPass-from_list_all p xs e i 0 l))
    (λ e. list_all-from_AllPass p xs (λ i d l. rw (get_or_default xs i d 0 l) (every-at (length xs) (λ i. p (get_or xs i 0)) e i l)))

-- a loop that tests one number after another

pub every_none : (f : ℕ → Bool) → every 0 f ≡ true
every_none f = every_of 0 f (λ i l. absurd (omega arith))

pub every_next : (n : ℕ) (f : ℕ → Bool) → every n f ≡ true → f n ≡ true → every (n + 1) f ≡ true
every_next n f e l = rw add-one (every_more n f e l)

-- ---- count

pub count_true : (f : ℕ → Bool) (n : ℕ) → f n ≡ true → count f (suc n) ≡ suc (count f n)
unfolding count
count_true f n e = rw e

pub count_false : (f : ℕ → Bool) (n : ℕ) → f n ≡ false → count f (suc n) ≡ count f n
unfolding count
count_false f n e = rw e

pub count_step : (f : ℕ → Bool) (n : ℕ) → (count f n ≤ count f (suc n)) × (count f (suc n) ≤ suc (count f n))
count_step f n = go (decided (f n))
  where
    go : (f n ≡ true) ⊎ (f n ≡ false) → (count f n ≤ count f (suc n)) × (count f (suc n) ≤ suc (count f n))
    go (inl e) = omega (arith, count_true f n e)
    go (inr e) = omega (arith, count_false f n e)

pub count-le : (f : ℕ → Bool) (n : ℕ) → count f n ≤ n
unfolding count
count-le f zero = omega arith
count-le f (suc n) = omega (arith, count-le f n, count_step f n)

pub count_mono : (f : ℕ → Bool) (i n : ℕ) → i ≤ n → count f i ≤ count f n
count_mono f i zero h = let e : i ≡ 0 = omega arith in rw e (omega arith)
count_mono f i (suc n) h = go (eq-or-lt_of_le h) (λ l. count_mono f i n (le_of_suc-le-suc l))
  where
    go : (i ≡ suc n) ⊎ (i < suc n) → (i < suc n → count f i ≤ count f n) → count f i ≤ count f (suc n)
    go (inl e) r = rw e (omega arith)
    go (inr l) r = omega (arith, r l, count_step f n)

-- one that passes counts from the next on
pub count-lt : (f : ℕ → Bool) (i n : ℕ) → i < n → f i ≡ true → count f i < count f n
count-lt f i n h e = omega (arith, count_mono f (suc i) n h, count_true f i e)

-- two numbers of which neither is below the other are one
pub neither_below : (i j : ℕ) → (i < j → ⊥) → (j < i → ⊥) → i ≡ j
neither_below i j p q = go (decided (ltb i j)) (decided (ltb j i))
  where
    go : (ltb i j ≡ true) ⊎ (ltb i j ≡ false) → (ltb j i ≡ true) ⊎ (ltb j i ≡ false) → i ≡ j
    go (inl a) y = absurd (p (ltb-true i j a))
    go (inr a) (inl b) = absurd (q (ltb-true j i b))
    go (inr a) (inr b) = omega (arith, ltb-false i j a, ltb-false j i b)

-- two that pass and have as many before them are one
pub count_inj : (f : ℕ → Bool) (i j : ℕ) → f i ≡ true → f j ≡ true → count f i ≡ count f j → i ≡ j
count_inj f i j hi hj e = neither_below i j (λ l. omega (arith, count-lt f i j l hi)) (λ l. omega (arith, count-lt f j i l hj))

pub count_ext : (f g : ℕ → Bool) (n : ℕ) → ((i : ℕ) → i < n → f i ≡ g i) → count f n ≡ count g n
unfolding count
count_ext f g zero h = refl
count_ext f g (suc n) h =
    let e : count f n ≡ count g n = count_ext f g n (λ i l. h i (omega arith)) in
    let p : f n ≡ g n = h n (omega arith) in
    rw (e, p)

pub count_add : (f : ℕ → Bool) (m n : ℕ) → count f (m + n) ≡ count f m + count (λ i. f (m + i)) n
unfolding count
count_add f m zero = ap (count f) (add-zero m) ∙ sym (add-zero (count f m))
count_add f m (suc n) = rw (add-suc, count_add f m n) (go (f (m + n)))
  where
    go : (t : Bool) → cond t (suc (count f m + count (λ i. f (m + i)) n)) (count f m + count (λ i. f (m + i)) n)
        ≡ count f m + cond t (suc (count (λ i. f (m + i)) n)) (count (λ i. f (m + i)) n)
    go true = sym (add-suc (count f m) (count (λ i. f (m + i)) n))
    go false = refl

-- none passes
pub count_none : (f : ℕ → Bool) (n : ℕ) → ((i : ℕ) → i < n → f i ≡ false) → count f n ≡ 0
unfolding count
count_none f zero h = refl
count_none f (suc n) h = count_false f n (h n (omega arith)) ∙ count_none f n (λ i l. h i (omega arith))

-- a count of zero: none passes
pub none_counted : (f : ℕ → Bool) (n : ℕ) → count f n ≡ 0 → (i : ℕ) → i < n → f i ≡ false
none_counted f n e i h = fails (f i) (λ t. let l = count-lt f i n h t in omega arith)

-- ---- nth

pub record Nth (f : ℕ → Bool) (n m i : ℕ) : Type 0 where
  pub below : i < n
  pub passes : f i ≡ true
  pub rank : count f i ≡ m

pub nth_is : (f : ℕ → Bool) (n m : ℕ) → m < count f n → Nth f n m (nth f n m)
unfolding nth count
nth_is f zero m h = absurd (omega arith)
nth_is f (suc n) m h = go (decided (ltb m (count f n))) (nth_is f n m)
  where
    go : (ltb m (count f n) ≡ true) ⊎ (ltb m (count f n) ≡ false) → (m < count f n → Nth f n m (nth f n m)) → Nth f (suc n) m (nth f (suc n) m)
    go (inl e) r =
        let q = r (ltb-true m (count f n) e) in
        rw (e, nth) (record { below = omega arith; passes = q.passes; rank = q.rank })
    go (inr e) r = rw (e, nth) (last (decided (f n)))
      where
        last : (f n ≡ true) ⊎ (f n ≡ false) → Nth f (suc n) m n
        last (inl t) = record { below = omega arith; passes = t; rank = omega (arith, count_true f n t, ltb-false m (count f n) e) }
        last (inr t) = absurd (omega (arith, count_false f n t, ltb-false m (count f n) e))

pub nth-count : (f : ℕ → Bool) (n i : ℕ) → i < n → f i ≡ true → nth f n (count f i) ≡ i
nth-count f n i h e =
    let q = nth_is f n (count f i) (count-lt f i n h e) in
    count_inj f (nth f n (count f i)) i q.passes e q.rank

-- ---- lists given entry by entry

pub length-list_from : (i n : ℕ) (f : ℕ → ℕ) → length (list_from i n f) ≡ n
unfolding list_from
length-list_from i zero f = refl
length-list_from i (suc n) f = ap suc (length-list_from (suc i) n f)

pub get_or-list_from : (i n : ℕ) (f : ℕ → ℕ) (j : ℕ) → j < n → get_or (list_from i n f) j 0 ≡ f (i + j)
unfolding list_from
get_or-list_from i zero f j h = absurd (omega arith)
get_or-list_from i (suc n) f zero h = ap f (sym (add-zero i))
get_or-list_from i (suc n) f (suc j) h = get_or-list_from (suc i) n f j (omega arith) ∙ ap f (omega arith)
