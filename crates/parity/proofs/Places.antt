-- The units of a stripe lie in the image, each in a place of its own. Assumes nothing.
use mathlib.Core.Path.{◌≡◌, refl, sym, ap, ◌∙◌}
use mathlib.Core.Bool.{true}
use mathlib.Core.List.{List}
use Prim.Native.Nat.{ℕ, ◌-◌, ◌≤◌, ◌<◌}
use native.Mathlib.Omega.{arith}
use lib.ListN.{length, take}
use lib.Seq.{length-take-le}
use Rattle.design.specs.declared.Shelf.{Shelf}
use Rattle.design.specs.Shelf.{is_shelf}
use Rattle.placement.specs.Layout.{layout_in, stripes}
use Rattle.parity.specs.Units.{xor_u, xor_sum}
use Rattle.parity.specs.Stripe.{unit_size, units, image_size, unit_in, index_here, cell, others}
use Rattle.parity.specs.inner.Stores.{put_unit}
use Rattle.parity.specs.inner.Blocks.{rest_of, sum_with, numbered, Placed, Listed}
use Rattle.parity.specs.inner.Shapes.{renewed, resealed}
use Rattle.parity.proofs.Xor.{xor_sum_past}
use Rattle.parity.proofs.Image.{unit_fits}
use Rattle.parity.proofs.Home.{unit-lt, index_home}
use Rattle.parity.proofs.Ready.{reckoned}
use Rattle.parity.proofs.Rest.{listed_front, listed_placed, listed_rest, listed_restored, listed_gathered, listed_mixed, listed_resealed}

module _ (h : Shelf) (ok : is_shelf h ≡ true) (s : ℕ) (hs : s < stripes (layout_in h)) where
  pub units-placed : (image : List ℕ) → length image ≡ image_size h → Placed (unit_size h) (unit_in h s) h.k (length image)
  units-placed image len =
      record {
        within = λ i hi. unit_fits (unit_size h) (units h) image len (unit_in h s i) (unit-lt h ok s i hs hi);
        apart = λ i j hi hj e. sym (index_home h ok s i hs hi) ∙ ap (λ (n : ℕ). index_here h n) e ∙ index_home h ok s j hs hj;
      }

-- with k for the unit left out, the exclusive-or is that of all units
pub others-whole : (h : Shelf) (image : List ℕ) (s : ℕ) → others h image s h.k ≡ xor_sum (unit_size h) (cell h image s) h.k
unfolding others
others-whole h image s = xor_sum_past (unit_size h) (cell h image s) _ h.k

-- ---- as sums of numbered units

pub rest-others : (h : Shelf) (image : List ℕ) (s i : ℕ) → rest_of (unit_size h) image (unit_in h s) i h.k ≡ others h image s i
unfolding others cell
rest-others h image s i = refl

pub mixed-resealed : (h : Shelf) (image : List ℕ) (s j : ℕ) (x : List ℕ)
    → put_unit (unit_size h) image (unit_in h s (h.k - 1)) (sum_with (unit_size h) image (unit_in h s) j x (h.k - 1)) ≡ resealed h image s j x
unfolding resealed cell
mixed-resealed h image s j x = refl

-- ---- by the numbers of the units of a stripe, which the code takes from a longer list

pub record Found (h : Shelf) (s : ℕ) (numbers : List ℕ) : Type 0 where
  pub ok : is_shelf h ≡ true
  pub stripe : s < stripes (layout_in h)
  pub count : length numbers ≡ 16
  pub listed : Listed numbers (unit_in h s) h.k

module _ {h : Shelf} {s : ℕ} {numbers : List ℕ} (F : Found h s numbers) where
  abbrev taken : List ℕ
  taken = take h.k numbers

  pub taken_room : h.k ≤ length numbers
  taken_room = omega (arith, (reckoned h F.ok s F.stripe).most)

  pub taken_size : length taken ≡ h.k
  taken_size = length-take-le h.k numbers taken_room

  same : Listed taken (unit_in h s) h.k
  same = listed_front numbers (unit_in h s) h.k F.listed

  pub taken-placed : (image : List ℕ) → length image ≡ image_size h → Placed (unit_size h) (numbered taken) (length taken) (length image)
  taken-placed image len = listed_placed taken (unit_in h s) h.k taken_size same (unit_size h) (length image) (units-placed h F.ok s F.stripe image len)

  module _ (image : List ℕ) (i : ℕ) {after : List ℕ} where
    pub taken-restored : i < h.k → after ≡ put_unit (unit_size h) image (numbered taken i) (rest_of (unit_size h) image (numbered taken) i (length taken))
        → after ≡ renewed h image s i (others h image s i)
    taken-restored l e =
        listed_restored taken (unit_in h s) h.k taken_size same (unit_size h) image i l e ∙ ap (renewed h image s i) (rest-others h image s i)

    pub taken-rest : after ≡ rest_of (unit_size h) image (numbered taken) i (length taken) → after ≡ others h image s i
    taken-rest e = e ∙ listed_rest taken (unit_in h s) h.k taken_size same (unit_size h) image i ∙ rest-others h image s i

    pub taken-gathered : length image ≡ image_size h → (unit : List ℕ) → length unit ≡ unit_size h
        → after ≡ put_unit (unit_size h) unit 0 (rest_of (unit_size h) image (numbered taken) i (length taken)) → after ≡ others h image s i
    taken-gathered len unit size e =
        listed_gathered taken (unit_in h s) h.k taken_size same (unit_size h) image unit i (units-placed h F.ok s F.stripe image len).within size e ∙ rest-others h image s i

    module _ (x : List ℕ) (l : i < h.k - 1) where
      pub taken-mixed : after ≡ put_unit (unit_size h) image (numbered taken (length taken - 1)) (sum_with (unit_size h) image (numbered taken) i x (length taken - 1))
          → after ≡ resealed h image s i x
      taken-mixed e = listed_mixed taken (unit_in h s) h.k taken_size same (unit_size h) image i x l e ∙ mixed-resealed h image s i x

      pub taken-resealed : length image ≡ image_size h → length x ≡ unit_size h
          → after ≡ put_unit (unit_size h) image (numbered taken (length taken - 1)) (xor_u (rest_of (unit_size h) image (numbered taken) i (length taken - 1)) x)
          → after ≡ resealed h image s i x
      taken-resealed len size e =
          listed_resealed taken (unit_in h s) h.k taken_size same (unit_size h) image i x l (units-placed h F.ok s F.stripe image len).within size e ∙ mixed-resealed h image s i x
