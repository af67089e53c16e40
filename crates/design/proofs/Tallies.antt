-- Laws of the whole pass: what a tuple adds to the rows of its disks, and what all tuples add. Assumes nothing.
use mathlib.Core.Path.{◌≡◌, refl, sym, ap, ap₂, ◌∙◌}
use mathlib.Core.Logic.{◌⊎◌, inl, inr, ◌≢◌}
use mathlib.Core.Bool.{Bool, true, false, cond, ◌&&◌}
use mathlib.Core.List.{List, []}
use Prim.Native.Nat.{ℕ, ◌+◌, ◌*◌, ◌/◌, ◌≤◌, ◌<◌}
use native.Mathlib.Nat.{mul-le-mul}
use native.Mathlib.Omega.{arith}
use lib.Dec.{eqb}
use lib.ListN.{length, set, take, replicate, get_or-replicate}
use lib.Seq.{get_or-set_same, get_or-set_other}
use borrow.Author.Tests.{eqb-true, eqb-false}
use Rattle.design.specs.Count.{count, every}
use Rattle.design.specs.Tuples.{Design, in_table, Different, has, holds, shared, disks_even, pairs_even}
use Rattle.design.specs.inner.Planes.{bit, plane_of, row_of, counted, AddedRow}
use Rattle.design.specs.inner.Tally.{tuples_of, MaskOf, AddedTuple, Tallied}
use Rattle.design.proofs.Counting.{decided, every_ext, count-le, count_mono}
use Rattle.design.proofs.Sums.{count_next}
use Rattle.design.proofs.Design.{has-once, shared_self}
use Rattle.design.proofs.Bits.{bit-lt}
use Rattle.design.proofs.Lanes.{lane_none}
use Rattle.design.proofs.Parts.{has_ext, shared_part}

-- ---- one tuple

-- the mask is added to the rows of the disks at the first p positions
abbrev pub AddedRows : (ℕ → ℕ) → ℕ → ℕ → List (List ℕ) → List (List ℕ) → Type 0
AddedRows tuple mask p counts after =
    (d e : ℕ) → counted (row_of after d) e ≡ counted (row_of counts d) e + count (λ i. eqb (tuple i) d) p * bit mask e

pub rows_none : (tuple : ℕ → ℕ) (mask : ℕ) (counts : List (List ℕ)) → AddedRows tuple mask 0 counts counts
unfolding count
rows_none tuple mask counts d e = omega arith

pub rows_next : (tuple : ℕ → ℕ) (mask p : ℕ) (counts now : List (List ℕ)) (x : ℕ) (row : List ℕ) → x ≡ tuple p → x < length now
    → AddedRows tuple mask p counts now → AddedRow mask (row_of now x) row → AddedRows tuple mask (p + 1) counts (set now x row)
rows_next tuple mask p counts now x row is h a b d e =
    rw (count_next (λ i. eqb (tuple i) d) p, is) (go (decided (eqb (tuple p) d)))
  where
    go : (eqb (tuple p) d ≡ true) ⊎ (eqb (tuple p) d ≡ false)
        → counted (row_of (set now (tuple p) row) d) e
        ≡ counted (row_of counts d) e + (count (λ i. eqb (tuple i) d) p + cond (eqb (tuple p) d) 1 0) * bit mask e
    go (inl t) =
        let same : tuple p ≡ d = eqb-true (tuple p) d t in
        let put : row_of (set now (tuple p) row) d ≡ row = ap (row_of (set now (tuple p) row)) (sym same) ∙ get_or-set_same now (tuple p) row [] (rw is at h) in
        let more : counted row e ≡ counted (row_of now d) e + bit mask e = rw (is, same) at (b e) in
        rw (t, put) (omega (arith, more, a d e))
    go (inr t) =
        let other : d ≢ tuple p = λ q. eqb-false (tuple p) d t (sym q) in
        rw (t, get_or-set_other now (tuple p) d row [] other) (omega (arith, a d e))

-- different disks add at most one anywhere
pub rows_le : (tuple : ℕ → ℕ) (k mask p : ℕ) (counts now : List (List ℕ)) → p ≤ k → Different tuple k → AddedRows tuple mask p counts now
    → (d e : ℕ) → counted (row_of now d) e ≤ counted (row_of counts d) e + 1
rows_le tuple k mask p counts now h apart a d e =
    let n : count (λ i. eqb (tuple i) d) p ≤ 1 = omega (arith, count_mono (λ i. eqb (tuple i) d) p k h, has-once tuple k d apart, most (has tuple k d)) in
    let m : bit mask e ≤ 1 = omega (arith, bit-lt mask e) in
    omega (arith, a d e, mul-le-mul n m)
  where
    most : (t : Bool) → cond t 1 0 ≤ 1
    most true = omega arith
    most false = omega arith

pub tuple_added : (tuple : ℕ → ℕ) (k mask : ℕ) (counts after : List (List ℕ)) → Different tuple k → MaskOf tuple k mask → AddedRows tuple mask k counts after
    → AddedTuple tuple k counts after
tuple_added tuple k mask counts after apart m a d e =
    a d e ∙ ap (λ (n : ℕ). counted (row_of counts d) e + n) (ap₂ ◌*◌ (has-once tuple k d apart) (m e) ∙ product (has tuple k d) (has tuple k e))
  where
    product : (x y : Bool) → cond x 1 0 * cond y 1 0 ≡ cond (x && y) 1 0
    product true true = refl
    product true false = refl
    product false true = refl
    product false false = refl

-- ---- the whole pass

pub shared-le : (D : Design) (q d e : ℕ) → shared D q d e ≤ q
unfolding shared
shared-le D q d e = count-le (λ q'. holds D q' d && holds D q' e) q

pub tallied_none : (D : Design) → Tallied D 0 (replicate 64 (replicate 11 0))
unfolding shared count
tallied_none D d e h =
    let row : row_of (replicate 64 (replicate 11 0)) d ≡ replicate 11 0 = get_or-replicate 64 d (replicate 11 0) [] h in
    rw row (lane_none (plane_of (replicate 11 0)) 11 e (λ i l. get_or-replicate 11 i 0 0 l))

pub tallied_next : (D : Design) (q : ℕ) (tuple : ℕ → ℕ) (counts after : List (List ℕ)) → ((p : ℕ) → p < D.k → tuple p ≡ D.disk q p) → Tallied D q counts
    → AddedTuple tuple D.k counts after → Tallied D (q + 1) after
unfolding shared holds
tallied_next D q tuple counts after same t a d e hd =
    let both : (has tuple D.k d && has tuple D.k e) ≡ (holds D q d && holds D q e) = ap₂ ◌&&◌ (has_ext tuple (D.disk q) D.k same d) (has_ext tuple (D.disk q) D.k same e) in
    let more : counted (row_of after d) e ≡ counted (row_of counts d) e + cond (holds D q d && holds D q e) 1 0 = rw both at (a d e) in
    omega (arith, t d e hd, more, count_next (λ q'. holds D q' d && holds D q' e) q)

-- ---- rules 8 and 9

module _ (v k b : ℕ) (table : List ℕ) (hk : 0 < k) (room : b * k ≤ length table) (counts : List (List ℕ)) (few : v ≤ 64)
    (t : Tallied (tuples_of k (take (b * k) table)) (length (take (b * k) table) / k) counts) where
  pub counted_shared : (d e : ℕ) → d < 64 → counted (row_of counts d) e ≡ shared (in_table v k b table) b d e
  counted_shared d e h = t d e h ∙ shared_part v k b table hk room d e

  pub even_disks : (r : ℕ) → every v (λ d. eqb (counted (row_of counts d) d) r) ≡ disks_even (in_table v k b table) r
  unfolding disks_even
  even_disks r =
      every_ext v _ _ (λ d l. ap (λ (n : ℕ). eqb n r) (counted_shared d d (omega arith) ∙ shared_self (in_table v k b table) b d))

  pub even_pairs : (lambda : ℕ) → every v (λ d. every d (λ e. eqb (counted (row_of counts d) e) lambda)) ≡ pairs_even (in_table v k b table) lambda
  unfolding pairs_even
  even_pairs lambda =
      every_ext v _ _ (λ d l. every_ext d _ _ (λ e m. ap (λ (n : ℕ). eqb n lambda) (counted_shared d e (omega arith))))
