-- The places and the pairs of a design, counted by its disks and by its tuples, and what a balanced design's r and lambda are
-- by that (document 01, "The sheet"; source 001). Assumes nothing.
use mathlib.Core.Path.{◌≡◌, refl, sym, ap, ◌∙◌}
use mathlib.Core.Logic.{◌⊎◌, inl, inr}
use mathlib.Core.Bool.{Bool, true, false, cond, ◌&&◌}
use Prim.Native.Nat.{ℕ, suc, ◌-◌, ◌*◌, ◌≤◌, ◌<◌}
use native.Mathlib.Omega.{arith}
use lib.Dec.{eqb}
use borrow.Author.Tests.{eqb-true, eqb-false, eq-eqb}
use Rattle.design.specs.Count.{count}
use Rattle.design.specs.Tuples.{Design, has, holds, before, shared, Different, Balanced}
use Rattle.design.proofs.Counting.{decided, count_ext}
use Rattle.design.proofs.Sums.{sum, sum_ext, sum_const, sum-mul, sum_one, count-sum, count_swap, count_most_one, count_unique, count_both}

-- every disk number is below v
abbrev pub DisksBelow : Design → Type 0
DisksBelow D = (q p : ℕ) → q < D.b → p < D.k → D.disk q p < D.v

-- no disk stands twice in a tuple
abbrev pub NoneTwice : Design → Type 0
NoneTwice D = (q : ℕ) → q < D.b → Different (D.disk q) D.k

-- ---- the disks of a tuple

-- a disk stands at most once among k different ones
pub has-once : (tuple : ℕ → ℕ) (k d : ℕ) → Different tuple k → count (λ p. eqb (tuple p) d) k ≡ cond (has tuple k d) 1 0
unfolding has
has-once tuple k d h = count_most_one (λ p. eqb (tuple p) d) k (λ i j hi hj x y. h i j hi hj (eqb-true (tuple i) d x ∙ sym (eqb-true (tuple j) d y)))

-- k different disks below v are k of the v disks
has_all : (tuple : ℕ → ℕ) (k v : ℕ) → Different tuple k → ((p : ℕ) → p < k → tuple p < v) → count (has tuple k) v ≡ k
has_all tuple k v h below =
    count-sum (has tuple k) v
    ∙ sum_ext _ _ v (λ d l. sym (has-once tuple k d h))
    ∙ count_swap (λ d p. eqb (tuple p) d) v k
    ∙ sum_ext _ (λ p. 1) k (λ p l. count_unique (λ d. eqb (tuple p) d) v (tuple p) (below p l) (eq-eqb (tuple p) (tuple p) refl) (λ d m e. sym (eqb-true (tuple p) d e)))
    ∙ sum_const 1 k
    ∙ omega arith

-- ---- places and pairs

-- a disk shares with itself the tuples that hold it
pub shared_self : (D : Design) (n d : ℕ) → shared D n d d ≡ before D n d
unfolding shared before
shared_self D n d = count_ext _ _ n (λ q l. idem (holds D q d))
  where
    idem : (x : Bool) → (x && x) ≡ x
    idem true = refl
    idem false = refl

pub shared_sym : (D : Design) (n d e : ℕ) → shared D n d e ≡ shared D n e d
unfolding shared
shared_sym D n d e = count_ext _ _ n (λ q l. swap (holds D q d) (holds D q e))
  where
    swap : (x y : Bool) → (x && y) ≡ (y && x)
    swap true true = refl
    swap true false = refl
    swap false true = refl
    swap false false = refl

module _ (D : Design) (below : DisksBelow D) (different : NoneTwice D) where
  -- a tuple holds k disks
  pub tuple_size : (q : ℕ) → q < D.b → count (holds D q) D.v ≡ D.k
  unfolding holds
  tuple_size q h = has_all (D.disk q) D.k D.v (different q h) (λ p l. below q p h l)

  -- the places, by disks and by tuples
  pub all_places : sum (before D D.b) D.v ≡ D.b * D.k
  unfolding before
  all_places =
      count_swap (λ d q. holds D q d) D.v D.b ∙ sum_ext _ (λ q. D.k) D.b tuple_size ∙ sum_const D.k D.b

  -- the tuples with disk d have k disks each
  pub pairs_with : (d : ℕ) → sum (shared D D.b d) D.v ≡ D.k * before D D.b d
  unfolding shared before
  pairs_with d =
      count_swap (λ e q. holds D q d && holds D q e) D.v D.b
      ∙ sum_ext _ (λ q. D.k * cond (holds D q d) 1 0) D.b each
      ∙ sum-mul D.k (λ q. cond (holds D q d) 1 0) D.b
      ∙ ap (λ (n : ℕ). D.k * n) (sym (count-sum (λ q. holds D q d) D.b))
    where
      each : (q : ℕ) → q < D.b → count (λ e. holds D q d && holds D q e) D.v ≡ D.k * cond (holds D q d) 1 0
      each q l = count_both (holds D q d) (holds D q) D.v ∙ ap (λ (n : ℕ). n * cond (holds D q d) 1 0) (tuple_size q l)

-- ---- balanced designs

module _ (D : Design) (below : DisksBelow D) (r lambda : ℕ) (balanced : Balanced D r lambda) where
  pub places : D.b * D.k ≡ D.v * r
  places =
      sym (all_places D below balanced.different) ∙ sum_ext _ (λ d. r) D.v balanced.often ∙ sum_const r D.v

  pub spread : 1 ≤ D.v → 1 ≤ D.k → lambda * (D.v - 1) ≡ r * (D.k - 1)
  spread hv hk =
      omega (
        arith,
        ap (λ (n : ℕ). n * lambda) (suc_less D.v hv),
        ap (λ (n : ℕ). n * r) (suc_less D.k hk),
        pairs_with D below balanced.different 0,
        ap (λ (n : ℕ). D.k * n) (balanced.often 0 hv),
        sum_ext _ _ D.v each,
        sum_one r lambda 0 D.v hv,
      )
    where
      suc_less : (n : ℕ) → 1 ≤ n → n ≡ suc (n - 1)
      suc_less n h = omega arith

      own : shared D D.b 0 0 ≡ r
      own = shared_self D D.b 0 ∙ balanced.often 0 hv

      each : (e : ℕ) → e < D.v → shared D D.b 0 e ≡ cond (eqb e 0) r lambda
      each e l = go (decided (eqb e 0))
        where
          go : (eqb e 0 ≡ true) ⊎ (eqb e 0 ≡ false) → shared D D.b 0 e ≡ cond (eqb e 0) r lambda
          go (inl x) = rw (x, eqb-true e 0 x) own
          go (inr x) = rw x (balanced.paired 0 e hv l (λ y. eqb-false e 0 x (sym y)))
