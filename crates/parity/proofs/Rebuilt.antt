-- After a rebuild each unit of the lost disk is the exclusive-or of the others, every other unit is as it was, and each stripe
-- that met the lost disk is right. Assumes nothing.
use mathlib.Core.Path.{◌≡◌, sym, ap, ap₂, ◌∙◌}
use mathlib.Core.Bool.{Bool, true, false, not, cond}
use mathlib.Core.List.{List}
use Prim.Native.Nat.{ℕ, ◌%◌, ◌<◌}
use native.Mathlib.Nat.{mod-lt}
use native.Mathlib.Omega.{arith}
use lib.Dec.{eqb}
use lib.ListN.{length}
use borrow.Author.Tests.{lt-ltb, le-leb, eqb-true, eqb-false}
use Rattle.design.specs.declared.Shelf.{Shelf}
use Rattle.design.specs.Loss.{is_lost}
use Rattle.design.specs.Shelf.{is_shelf}
use Rattle.placement.specs.Layout.{layout_in, stripes}
use Rattle.parity.specs.Units.{zeros, unit_at, xor_sum, put}
use Rattle.parity.specs.Stripe.{unit_size, depth, units, image_size, unit_in, stripe_here, index_here, present, cell, others}
use Rattle.parity.specs.Calls.{restores, restored, rebuilt_image, on_disk}
use Rattle.parity.proofs.Cases.{cases}
use Rattle.parity.proofs.Xor.{xor_sum_ext, recover, restored_zero}
use Rattle.parity.proofs.Patch.{Sized, patch-length}
use Rattle.parity.proofs.Home.{depth_pos, unit-lt, stripe_home, index_home, stripe_here-lt, beside_absent}
use Rattle.parity.proofs.Meets.{on_disk-unit, lost_exactly}
use Rattle.parity.proofs.Cells.{cell-length, others-length, others_ext, cell-patch}

-- the exclusive-or of the units of stripe s is all zeros
abbrev pub Right : Shelf → List ℕ → ℕ → Type 0
Right h image s = xor_sum (unit_size h) (cell h image s) h.k ≡ zeros (unit_size h)

-- restoring all offsets restores every unit that is not present
pub restores-all : (h : Shelf) → is_shelf h ≡ true → (n : ℕ) → restores h 0 (depth h) n ≡ not (present h n)
unfolding restores
restores-all h ok n = rw (le-leb 0 (n % depth h) (omega arith), lt-ltb (n % depth h) (depth h) (mod-lt n (depth_pos h ok)))

module _ (h : Shelf) (ok : is_shelf h ≡ true) (image : List ℕ) (len : length image ≡ image_size h) where
  -- what unit n becomes where it is restored
  abbrev becomes : ℕ → List ℕ
  becomes n = others h image (stripe_here h n) (index_here h n)

  pub restored-sized : (on : ℕ → Bool) → Sized h on (λ n. others h image (stripe_here h n) (index_here h n))
  restored-sized on n hn e = others-length h ok image len (stripe_here h n) (index_here h n) (stripe_here-lt h ok n hn)

  pub restored-length : (from to : ℕ) → length (restored h image from to) ≡ image_size h
  unfolding restored
  restored-length from to = patch-length h image len _ becomes (restored-sized _)

  pub rebuilt_length : length (rebuilt_image h image) ≡ image_size h
  rebuilt_length = restored-length 0 (depth h)

  module _ (s i : ℕ) (hs : s < stripes (layout_in h)) (hi : i < h.k) where
    at_home : becomes (unit_in h s i) ≡ others h image s i
    at_home = ap₂ (others h image) (stripe_home h ok s i hs hi) (index_home h ok s i hs hi)

    pub restored-cell : (from to : ℕ) → cell h (restored h image from to) s i ≡ cond (restores h from to (unit_in h s i)) (others h image s i) (cell h image s i)
    unfolding restored
    restored-cell from to =
        cell-patch h ok image len _ becomes (restored-sized _) s i hs hi
        ∙ ap (λ (x : List ℕ). cond (restores h from to (unit_in h s i)) x (cell h image s i)) at_home

    pub rebuilt_lost : present h (unit_in h s i) ≡ false → cell h (rebuilt_image h image) s i ≡ others h image s i
    rebuilt_lost e = restored-cell 0 (depth h) ∙ rw (restores-all h ok (unit_in h s i), e)

    pub rebuilt_kept : present h (unit_in h s i) ≡ true → cell h (rebuilt_image h image) s i ≡ cell h image s i
    rebuilt_kept e = restored-cell 0 (depth h) ∙ rw (restores-all h ok (unit_in h s i), e)

  -- the stripe of a lost unit is right
  pub rebuilt_right : (s i : ℕ) → s < stripes (layout_in h) → i < h.k → present h (unit_in h s i) ≡ false → Right h (rebuilt_image h image) s
  unfolding others
  rebuilt_right s i hs hi e =
      xor_sum_ext (unit_size h) (cell h (rebuilt_image h image) s) (put (cell h image s) i (others h image s i)) h.k (λ j hj. cases (eqb j i) (same j) (other j hj))
      ∙ restored_zero (unit_size h) (cell h image s) i h.k hi (λ j hj. cell-length h ok image len s j hs hj)
    where
      same : (j : ℕ) → eqb j i ≡ true → cell h (rebuilt_image h image) s j ≡ put (cell h image s) i (others h image s i) j
      same j t = rw t (ap (cell h (rebuilt_image h image) s) (eqb-true j i t) ∙ rebuilt_lost s i hs hi e)

      other : (j : ℕ) → j < h.k → eqb j i ≡ false → cell h (rebuilt_image h image) s j ≡ put (cell h image s) i (others h image s i) j
      other j hj t = rw t (rebuilt_kept s j hs hj (beside_absent h ok s i j hs hi hj e (eqb-false j i t)))

  -- a unit of a stripe that was right before the loss becomes what it was
  pub rebuilt_recovers : (before : List ℕ) → length before ≡ image_size h → ((n : ℕ) → n < units h → present h n ≡ true → unit_at (unit_size h) before n ≡ unit_at (unit_size h) image n)
      → (s i : ℕ) → s < stripes (layout_in h) → i < h.k → Right h before s → cell h (rebuilt_image h image) s i ≡ cell h before s i
  unfolding cell others
  rebuilt_recovers before size same s i hs hi right = cases (present h (unit_in h s i)) kept lost
    where
      kept : present h (unit_in h s i) ≡ true → cell h (rebuilt_image h image) s i ≡ cell h before s i
      kept e = rebuilt_kept s i hs hi e ∙ sym (same (unit_in h s i) (unit-lt h ok s i hs hi) e)

      lost : present h (unit_in h s i) ≡ false → cell h (rebuilt_image h image) s i ≡ cell h before s i
      lost e =
          rebuilt_lost s i hs hi e
          ∙ others_ext h image before s i (λ j hj ne. sym (same (unit_in h s j) (unit-lt h ok s j hs hj) (beside_absent h ok s i j hs hi hj e ne)))
          ∙ recover (unit_size h) (cell h before s) i h.k hi (cell-length h ok before size s i hs hi) right

  -- each stripe that met the lost disk is right
  pub met_right : (d s : ℕ) → is_lost h d ≡ true → s < stripes (layout_in h) → on_disk h s d ≡ true → Right h (rebuilt_image h image) s
  met_right d s e hs m =
      let u = on_disk-unit h ok s hs d m in
      rebuilt_right s u.0 hs u.1.below ((lost_exactly h ok s hs d u.0 e).1 u.1.disk)
