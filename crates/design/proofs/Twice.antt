-- What the test behind rule 6 of document 01 says: no tuple has a disk twice. Assumes nothing.
use mathlib.Core.Path.{◌≡◌, sym, ap, ◌∙◌}
use mathlib.Core.Logic.{◌⊎◌, inl, inr, ◌↔◌}
use mathlib.Core.Bool.{Bool, true, false, not, ◌&&◌, true≢false}
use Prim.Native.Nat.{ℕ, ◌<◌}
use native.Mathlib.Omega.{arith}
use lib.Dec.{ltb, eqb}
use borrow.Author.Tests.{lt-ltb, ltb-true, ltb-false, eq-eqb, eqb-true, not-true}
use Rattle.std.specs.Prelude.{Some, None}
use Rattle.design.specs.Count.{count, every, nth}
use Rattle.design.specs.Tuples.{Design, Different, again, repeated, none_twice}
use Rattle.design.proofs.Counting.{neither_below, decided, both, both_of, fails, every-at, every_of, count-lt, count_none, none_counted, nth_is, nth-count}

-- ---- rule 6

module _ (tuple : ℕ → ℕ) (k i : ℕ) where
  abbrev same_later : ℕ → Bool
  same_later j = ltb i j && eqb (tuple i) (tuple j)

  pub again_of : (j : ℕ) → i < j → j < k → tuple i ≡ tuple j → again tuple k i ≡ true
  unfolding again
  again_of j h l e =
      let t : same_later j ≡ true = both_of (lt-ltb i j h) (eq-eqb (tuple i) (tuple j) e) in
      lt-ltb 0 (count same_later k) (omega (arith, count-lt same_later j k l t))

  pub record Again : Type 0 where
    pub later : ℕ
    pub after : i < later
    pub within : later < k
    pub same : tuple i ≡ tuple later

  pub again-at : again tuple k i ≡ true → Again
  unfolding again
  again-at e =
      let q = nth_is same_later k 0 (ltb-true 0 (count same_later k) e) in
      let j = nth same_later k 0 in
      let t = both (ltb i j) (eqb (tuple i) (tuple j)) q.passes in
      record {
        later = j;
        after = ltb-true i j t.0;
        within = q.below;
        same = eqb-true (tuple i) (tuple j) t.1;
      }

  pub again_none : ((j : ℕ) → i < j → j < k → tuple i ≡ tuple j → ⊥) → again tuple k i ≡ false
  again_none h = fails (again tuple k i) (λ t. let w = again-at t in h w.later w.after w.within w.same)

-- no disk of the first n positions stands again
abbrev pub once_up_to : ℕ → (ℕ → ℕ) → ℕ → Bool
once_up_to n tuple k = every n (λ i. not (again tuple k i))

-- no disk of a tuple stands again: its disks are different
pub once_different : (tuple : ℕ → ℕ) (k : ℕ) → (once_up_to k tuple k ≡ true) ↔ Different tuple k
once_different tuple k = (different, once)
  where
    different : once_up_to k tuple k ≡ true → Different tuple k
    different e i j hi hj p = neither_below i j (λ l. apart i j l hi hj p) (λ l. apart j i l hj hi (sym p))
      where
        apart : (i j : ℕ) → i < j → i < k → j < k → tuple i ≡ tuple j → ⊥
        apart i j h hi hj p =
            true≢false (sym (again_of tuple k i j h hj p) ∙ not-true (again tuple k i) (every-at k (λ i. not (again tuple k i)) e i hi))

    once : Different tuple k → once_up_to k tuple k ≡ true
    once h =
        every_of k (λ i. not (again tuple k i))
        (λ i hi. ap not (again_none tuple k i (λ j l hj p. let e = h i j hi hj p in omega arith)))

pub twice : (D : Design) → (none_twice D ≡ true) ↔ ((q : ℕ) → q < D.b → Different (D.disk q) D.k)
unfolding none_twice
twice D = (
  λ e q h. (once_different (D.disk q) D.k).0 (every-at D.b once e q h),
  λ h. every_of D.b once (λ q l. (once_different (D.disk q) D.k).1 (h q l)),
)
  where
    once : ℕ → Bool
    once q = once_up_to D.k (D.disk q) D.k

none_counts : (f : ℕ → Bool) (n : ℕ) → every n (λ i. not (f i)) ≡ true → count f n ≡ 0
none_counts f n e = count_none f n (λ i h. not-true (f i) (every-at n (λ i. not (f i)) e i h))

pub none_repeated : (tuple : ℕ → ℕ) (k : ℕ) → (repeated tuple k ≡ None) ↔ (once_up_to k tuple k ≡ true)
unfolding repeated
none_repeated tuple k = (λ e. once e (decided (ltb 0 (count (again tuple k) k))), λ e. rw (none_counts (again tuple k) k e))
  where
    once : repeated tuple k ≡ None → (ltb 0 (count (again tuple k) k) ≡ true) ⊎ (ltb 0 (count (again tuple k) k) ≡ false)
        → once_up_to k tuple k ≡ true
    once e (inl t) = let z : ◌≡◌ {A = ℕ} 0 1 = cc (rw t at e) in absurd (omega arith)
    once e (inr t) =
        let n : count (again tuple k) k ≡ 0 = omega (arith, ltb-false 0 (count (again tuple k) k) t) in
        every_of k (λ i. not (again tuple k i)) (λ i h. ap not (none_counted (again tuple k) k n i h))

-- the first position whose disk stands again
pub repeated-first : (tuple : ℕ → ℕ) (k i : ℕ) → i < k → again tuple k i ≡ true → once_up_to i tuple k ≡ true
    → repeated tuple k ≡ Some (tuple i)
unfolding repeated
repeated-first tuple k i h t e =
    let first : nth (again tuple k) k 0 ≡ i = rw (none_counts (again tuple k) i e) at (nth-count (again tuple k) k i h t) in
    let some : ltb 0 (count (again tuple k) k) ≡ true = lt-ltb 0 (count (again tuple k) k) (omega (arith, count-lt (again tuple k) i k h t)) in
    rw (some, first)
