-- Which addresses a stripe has, how many stripes hold a disk or both of two, and the offset of a unit as the number of earlier
-- stripes that hold its disk. Assumes nothing.
use mathlib.Core.Path.{◌≡◌, sym, ap, ap₂, ◌∙◌}
use mathlib.Core.Logic.{◌↔◌, ◌⊎◌, inl, inr, ◌≢◌}
use mathlib.Core.Bool.{Bool, true, false, ◌&&◌}
use Prim.Native.Nat.{ℕ, ◌+◌, ◌*◌, ◌/◌, ◌%◌, ◌≤◌, ◌<◌}
use native.Mathlib.Nat.{mod-lt, div-add-mod', div-eq_of_lt-le, div-mul-le_self, lt-div-mul-add}
use native.Mathlib.Omega.{arith}
use lib.Dec.{ltb}
use borrow.Author.Tests.{ltb-true, ltb-false}
use Rattle.design.specs.declared.Shelf.{Shelf}
use Rattle.design.specs.Count.{count, nth}
use Rattle.design.specs.Tuples.{holds, before, shared}
use Rattle.design.specs.Shelf.{design_in, is_shelf}
use Rattle.design.proofs.Counting.{decided, count_ext}
use Rattle.design.proofs.Design.{shared_sym}
use Rattle.design.proofs.ShelfTests.{shelf_parts}
use Rattle.placement.specs.Layout.{Layout, layout_in, stripes, data_count, offsets, stripe_of, tuple_of, disk_of, offset_of, tuple_at, stripe_at}
use Rattle.placement.proofs.Even.{Even, even_shelf}
use Rattle.placement.proofs.DataCount.{data_pos}
use Rattle.placement.proofs.Row.{tuple_row, offset_row, disk-lt}
use Rattle.placement.proofs.Undo.{tuple_there}
use Rattle.placement.proofs.Rows.{count-digit, count_digits, count-nth}

-- stripe s holds disk d
abbrev pub stripe_holds : Layout → ℕ → ℕ → Bool
stripe_holds L s d = holds L.design (tuple_of L s) d

module _ (L : Layout) (E : Even L) where
  -- the addresses of stripe s follow one another
  pub stripe_exactly : (a s : ℕ) → (stripe_of L a ≡ s) ↔ ((s * data_count L ≤ a) × (a < (s + 1) * data_count L))
  stripe_exactly a s =
      let l = data_pos L E in
      (λ e. rw (← e) (div-mul-le_self a (data_count L), omega (arith, lt-div-mul-add {a = a} l)), λ h. div-eq_of_lt-le (data_count L) h.0 h.1)

  -- a test of the tuple, over all stripes
  tuple-count : (f : ℕ → Bool) → count (λ s. f (tuple_of L s)) (stripes L) ≡ L.T * L.design.k * count f L.design.b
  tuple-count f =
      count_ext _ (λ s. f (s % L.design.b)) (stripes L) (λ s l. ap f (tuple_row L E s))
      ∙ ap (count (λ s. f (s % L.design.b))) (omega arith)
      ∙ count-digit f L.design.b (L.T * L.design.k)

  pub disk-stripes : (d : ℕ) → d < L.design.v → count (λ s. stripe_holds L s d) (stripes L) ≡ L.T * L.r * L.design.k
  unfolding before
  disk-stripes d hd =
      tuple-count (λ q. holds L.design q d) ∙ ap (λ (n : ℕ). L.T * L.design.k * n) (E.often d hd) ∙ omega arith

  pub both_stripes : (d e : ℕ)
      → count (λ s. stripe_holds L s d && stripe_holds L s e) (stripes L) ≡ L.T * L.design.k * shared L.design L.design.b d e
  unfolding shared
  both_stripes d e = tuple-count (λ q. holds L.design q d && holds L.design q e)

  pub offset_rank : (s p : ℕ) → p < L.design.k → offset_of L s p ≡ count (λ s'. stripe_holds L s' (disk_of L s p)) s
  unfolding before
  offset_rank s p hp =
      let d : ℕ = disk_of L s p in
      let l : s % L.design.b ≤ L.design.b = omega (arith, mod-lt s E.b_pos) in
      offset_row L E s p
      ∙ ap₂ (λ (x y : ℕ). s / L.design.b * x + before L.design y d) (sym (E.often d (disk-lt L E s p hp))) (tuple_row L E s)
      ∙ sym (count_digits (λ q. holds L.design q d) L.design.b (s / L.design.b) (s % L.design.b) l)
      ∙ ap (count (λ s'. holds L.design (s' % L.design.b) d)) (div-add-mod' s L.design.b)
      ∙ count_ext _ _ s (λ s' m. ap (λ (q : ℕ). holds L.design q d) (sym (tuple_row L E s')))

  -- of the units of disk d, those whose tuple holds e: what a rebuild of d reads from e
  pub rebuild_reads : (d e : ℕ) → d < L.design.v
      → count (λ o. holds L.design (tuple_at L d o) e) (offsets L) ≡ L.T * L.design.k * shared L.design L.design.b d e
  unfolding shared before tuple_at
  rebuild_reads d e hd =
      let f : ℕ → Bool = λ q. holds L.design q d in
      let g : ℕ → Bool = λ m. holds L.design (nth f L.design.b m) e in
      ap (count (λ o. g (o % L.r))) (omega arith)
      ∙ count-digit g L.r (L.T * L.design.k)
      ∙ ap (λ (n : ℕ). L.T * L.design.k * n) (ap (count g) (sym (E.often d hd)) ∙ count-nth f (λ q. holds L.design q e) L.design.b)

  -- one for each stripe that d shares with e
  pub reads_shared : (d e : ℕ) → d < L.design.v
      → count (λ o. stripe_holds L (stripe_at L d o) e) (offsets L) ≡ count (λ s. stripe_holds L s d && stripe_holds L s e) (stripes L)
  reads_shared d e hd =
      count_ext _ _ (offsets L) (λ o l. ap (λ (q : ℕ). holds L.design q e) (tuple_there L E d o hd))
      ∙ rebuild_reads d e hd
      ∙ sym (both_stripes d e)

-- ---- of a shelf

module _ (h : Shelf) (ok : is_shelf h ≡ true) (d e : ℕ) (hd : d < h.v) (he : e < h.v) (ne : d ≢ e) where
  paired : shared (design_in h) h.b d e ≡ h.lambda
  paired = go (decided (ltb e d))
    where
      go : (ltb e d ≡ true) ⊎ (ltb e d ≡ false) → shared (design_in h) h.b d e ≡ h.lambda
      go (inl t) = (shelf_parts h ok).paired d e hd (ltb-true e d t)
      go (inr t) =
          let l : d ≤ e = ltb-false e d t in
          shared_sym (design_in h) h.b d e ∙ (shelf_parts h ok).paired e d he (omega arith)

  pub pair_stripes : count (λ s. stripe_holds (layout_in h) s d && stripe_holds (layout_in h) s e) (stripes (layout_in h)) ≡ h.T * h.k * h.lambda
  pair_stripes = both_stripes (layout_in h) (even_shelf h ok) d e ∙ ap (λ (n : ℕ). h.T * h.k * n) paired

  pub pair_reads : count (λ o. stripe_holds (layout_in h) (stripe_at (layout_in h) d o) e) (offsets (layout_in h)) ≡ h.T * h.k * h.lambda
  pair_reads = reads_shared (layout_in h) (even_shelf h ok) d e hd ∙ pair_stripes
