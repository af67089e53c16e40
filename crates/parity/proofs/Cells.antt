-- The units of a stripe in the image, and in the image with some units replaced. Assumes nothing.
use mathlib.Core.Path.{◌≡◌, ap}
use mathlib.Core.Logic.{◌≢◌}
use mathlib.Core.Bool.{Bool, true, cond}
use mathlib.Core.List.{List}
use Prim.Native.Nat.{ℕ, ◌<◌}
use lib.ListN.{length, length-replicate}
use Rattle.design.specs.declared.Shelf.{Shelf}
use Rattle.design.specs.Shelf.{is_shelf}
use Rattle.placement.specs.Layout.{layout_in, stripes}
use Rattle.parity.specs.Units.{zeros, unit_at, put}
use Rattle.parity.specs.Stripe.{unit_size, units, image_size, unit_in, stripe_here, index_here, cell, others, patch}
use Rattle.parity.proofs.Cases.{put_each, put_ext}
use Rattle.parity.proofs.Xor.{xor_sum_ext, xor_sum-length}
use Rattle.parity.proofs.Image.{unit-length}
use Rattle.parity.proofs.Patch.{Sized, patch-unit}
use Rattle.parity.proofs.Home.{unit-lt, unit_home}

module _ (h : Shelf) (ok : is_shelf h ≡ true) (image : List ℕ) (len : length image ≡ image_size h) where
  pub cell-length : (s i : ℕ) → s < stripes (layout_in h) → i < h.k → length (cell h image s i) ≡ unit_size h
  unfolding cell
  cell-length s i hs hi = unit-length (unit_size h) (units h) image len (unit_in h s i) (unit-lt h ok s i hs hi)

  pub others-length : (s i : ℕ) → s < stripes (layout_in h) → length (others h image s i) ≡ unit_size h
  unfolding others
  others-length s i hs =
      xor_sum-length (unit_size h) (put (cell h image s) i (zeros (unit_size h))) h.k
      (λ j hj. put_each (cell h image s) i (zeros (unit_size h)) (λ (x : List ℕ). length x ≡ unit_size h) j
      (λ e. length-replicate (unit_size h) 0) (λ e. cell-length s j hs hj))

  -- the unit that n is
  pub cell_home : (n : ℕ) → n < units h → cell h image (stripe_here h n) (index_here h n) ≡ unit_at (unit_size h) image n
  unfolding cell
  cell_home n hn = ap (unit_at (unit_size h) image) (unit_home h ok n hn)

  pub cell-patch : (on : ℕ → Bool) (f : ℕ → List ℕ) → Sized h on f → (s i : ℕ) → s < stripes (layout_in h) → i < h.k
      → cell h (patch h image on f) s i ≡ cond (on (unit_in h s i)) (f (unit_in h s i)) (cell h image s i)
  unfolding cell
  cell-patch on f sized s i hs hi = patch-unit h image len on f sized (unit_in h s i) (unit-lt h ok s i hs hi)

-- the others look at the others alone
pub others_ext : (h : Shelf) (a b : List ℕ) (s i : ℕ) → ((j : ℕ) → j < h.k → j ≢ i → cell h a s j ≡ cell h b s j) → others h a s i ≡ others h b s i
unfolding others
others_ext h a b s i same =
    xor_sum_ext (unit_size h) (put (cell h a s) i (zeros (unit_size h))) (put (cell h b s) i (zeros (unit_size h))) h.k
    (λ j hj. put_ext (cell h a s) (cell h b s) i (zeros (unit_size h)) j (same j hj))
