-- The counts of a rebuild, filled disk after disk. Assumes nothing.
use mathlib.Core.Path.{◌≡◌, sym, ap, ◌∙◌}
use mathlib.Core.Bool.{true, false, not, cond, ◌&&◌, and-false}
use mathlib.Core.List.{List, ◌++◌}
use Prim.Native.Nat.{ℕ, ◌+◌, ◌-◌, ◌*◌, ◌^◌, ◌≤◌, ◌<◌}
use native.Mathlib.Nat.{mul-le-mul, zero-add}
use native.Mathlib.Omega.{arith}
use lib.Dec.{ltb, eqb}
use lib.ListN.{length, get_or, set, take, drop, replicate, length-set, length-replicate, length-append, length-drop, get_or-replicate, get_or-append}
use lib.Seq.{get_or-set_same, get_or-set_other, get_or-take, get_or-drop, get_or-append_right, length-take-le, ext_get_or}
use borrow.Author.Tests.{le-ltb, ltb-true, ltb-false, eqb-true, eqb-false}
use Rattle.design.specs.declared.Loss.{Loss}
use Rattle.design.specs.declared.Shelf.{Shelf}
use Rattle.design.specs.Count.{list_from}
use Rattle.design.specs.Loss.{is_whole, lost_in}
use Rattle.design.specs.Shelf.{is_shelf}
use Rattle.design.proofs.Counting.{count-le, length-list_from, get_or-list_from}
use Rattle.design.proofs.Losses.{some_lost, lost_alone}
use Rattle.design.proofs.ShelfTests.{shelf_parts}
use Rattle.placement.specs.Layout.{layout_in, stripes}
use Rattle.placement.proofs.Bounds.{bounds}
use Rattle.placement.proofs.Shares.{stripe_holds, pair_stripes}
use Rattle.parity.specs.Stripe.{depth}
use Rattle.parity.specs.Calls.{read_from}
use Rattle.parity.proofs.Cases.{cases, below_next}
use Rattle.parity.proofs.Counts.{read_from_is}

-- ---- the numbers fit

pub copies_most : (h : Shelf) → is_shelf h ≡ true → h.T * h.k ≤ 65535 * 16
copies_most h ok =
    let l = (shelf_parts h ok).limits in
    let few : h.k ≤ 16 = omega arith in
    mul-le-mul l.T_most few

-- as many as the stripes that disks 0 and 1 share
pub each_most : (h : Shelf) → is_shelf h ≡ true → h.T * h.k * h.lambda < 2 ^ 27
each_most h ok =
    let l = (shelf_parts h ok).limits in
    omega (
      arith,
      pair_stripes h ok 0 1 (omega (arith, l.v_least)) (omega (arith, l.v_least)) (omega arith),
      count-le (λ s. stripe_holds (layout_in h) s 0 && stripe_holds (layout_in h) s 1) (stripes (layout_in h)),
      (bounds h ok).stripes,
    )

-- ---- the counts of the v disks, those below e filled

pub record Filled (each : ℕ) (loss : Loss) (v e : ℕ) (counts : List ℕ) : Type 0 where
  pub size : length counts ≡ v
  pub at : (i : ℕ) → i < v → get_or counts i 0 ≡ cond (ltb i e && not (lost_in loss i)) each 0

module _ (each : ℕ) (loss : Loss) (v : ℕ) where
  pub filled_none : v ≤ 64 → Filled each loss v 0 (take v (replicate 64 0))
  filled_none most = record {
    size = length-take-le {A = ℕ} v (replicate 64 0) (omega (arith, length-replicate {A = ℕ} 64 0));
    at = λ i l. get_or-take v (replicate 64 0) i 0 l ∙ get_or-replicate 64 i 0 0 (omega arith) ∙ rw (le-ltb i 0 (omega arith));
  }

  module _ (e : ℕ) (counts : List ℕ) (F : Filled each loss v e counts) where
    pub filled_next : e < v → lost_in loss e ≡ false → Filled each loss v (e + 1) (set counts e each)
    filled_next he there = record {
      size = length-set counts e each ∙ F.size;
      at = λ i l. rw (← below_next i e) (cases (eqb i e)
          (λ t. rw (t, eqb-true i e t, there) (get_or-set_same counts e each 0 (omega (arith, F.size))))
          (λ t. rw t (get_or-set_other counts e i each 0 (eqb-false i e t) ∙ F.at i l)));
    }

    pub filled_over : lost_in loss e ≡ true → Filled each loss v (e + 1) counts
    filled_over gone = record {
      size = F.size;
      at = λ i l. F.at i l ∙ rw (← below_next i e) (cases (eqb i e)
          (λ t. rw (t, eqb-true i e t, gone, and-false (ltb e e)))
          (λ t. rw t));
    }

  -- with zeros for the disks from v on
  padded : {e : ℕ} {counts : List ℕ} → v ≤ 64 → Filled each loss v e counts → e ≡ v → (i : ℕ) → i < 64
      → get_or (counts ++ drop v (replicate 64 0)) i 0 ≡ cond (ltb i v && not (lost_in loss i)) each 0
  padded {e} {counts} most F all i l = cases (ltb i v)
      (λ t. get_or-append counts (drop v (replicate 64 0)) 0 i (omega (arith, F.size, ltb-true i v t)) ∙ F.at i (ltb-true i v t) ∙ rw all)
      (λ t. let past : v ≤ i = omega (arith, ltb-false i v t) in
      get_or-append_right counts (drop v (replicate 64 0)) i 0 (omega (arith, F.size, past))
      ∙ get_or-drop v (replicate 64 0) (i - length counts) 0
      ∙ get_or-replicate 64 (v + (i - length counts)) 0 0 (omega (arith, F.size, past))
      ∙ rw t)

-- ---- of a shelf

module _ (h : Shelf) (ok : is_shelf h ≡ true) where
  pub filled-all : {e : ℕ} {counts : List ℕ} → is_whole h.loss ≡ false → Filled (h.T * h.k * h.lambda) h.loss h.v e counts → e ≡ h.v
      → counts ++ drop h.v (replicate 64 0) ≡ list_from 0 64 (read_from h 0 (depth h))
  filled-all {e} {counts} some F all =
      let (d, lost) = some_lost h.loss some in
      let most : h.v ≤ 64 = omega (arith, (shelf_parts h ok).limits.v_most) in
      let size : length (counts ++ drop h.v (replicate 64 0)) ≡ 64 =
      omega (arith, length-append counts (drop {A = ℕ} h.v (replicate 64 0)), length-drop {A = ℕ} h.v (replicate 64 0), length-replicate {A = ℕ} 64 0, F.size, most) in
      ext_get_or 0 _ (list_from 0 64 (read_from h 0 (depth h))) (size ∙ sym (length-list_from 0 64 (read_from h 0 (depth h))))
      (λ i l. padded (h.T * h.k * h.lambda) h.loss h.v most F all i (omega (arith, size))
      ∙ rw (lost_alone h.loss d lost i) (sym (read_from_is h ok d lost i))
      ∙ ap (read_from h 0 (depth h)) (sym (zero-add i))
      ∙ sym (get_or-list_from 0 64 (read_from h 0 (depth h)) i (omega (arith, size))))
