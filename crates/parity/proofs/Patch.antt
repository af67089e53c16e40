-- The image of a shelf with some units replaced: its length and its units, and that stores made one after another come to it.
-- Assumes nothing.
use mathlib.Core.Path.{◌≡◌, refl, sym, ap, ◌∙◌}
use mathlib.Core.Bool.{Bool, true, false, cond}
use mathlib.Core.List.{List}
use Prim.Native.Nat.{ℕ, ◌<◌}
use lib.Dec.{eqb}
use lib.ListN.{length}
use lib.Pow.{pow_pos}
use borrow.Author.Tests.{eqb-true, eqb-false}
use Rattle.design.specs.declared.Shelf.{Shelf}
use Rattle.parity.specs.Units.{unit_at, put}
use Rattle.parity.specs.Stripe.{unit_size, units, image_size, patch}
use Rattle.parity.specs.inner.Stores.{put_unit}
use Rattle.parity.proofs.Cases.{cases}
use Rattle.parity.proofs.Image.{unit-length, put-length, unit-put_same, unit-put-other, image_ext, units-length, units-unit}

-- f n is a unit where n passes `on`
abbrev pub Sized : Shelf → (ℕ → Bool) → (ℕ → List ℕ) → Type 0
Sized h on f = (n : ℕ) → n < units h → on n ≡ true → length (f n) ≡ unit_size h

module _ (h : Shelf) (image : List ℕ) (len : length image ≡ image_size h) (on : ℕ → Bool) (f : ℕ → List ℕ) (sized : Sized h on f) where
  each : (n : ℕ) → n < units h → length (cond (on n) (f n) (unit_at (unit_size h) image n)) ≡ unit_size h
  each n l = cases (on n) (λ e. rw e (sized n l e)) (λ e. rw e (unit-length (unit_size h) (units h) image len n l))

  pub patch-length : length (patch h image on f) ≡ image_size h
  unfolding patch
  patch-length = units-length (unit_size h) _ (units h) each

  pub patch-unit : (n : ℕ) → n < units h → unit_at (unit_size h) (patch h image on f) n ≡ cond (on n) (f n) (unit_at (unit_size h) image n)
  unfolding patch
  patch-unit n l = units-unit (unit_size h) _ (units h) each n l

  pub patch_on : (n : ℕ) → n < units h → on n ≡ true → unit_at (unit_size h) (patch h image on f) n ≡ f n
  patch_on n l e = patch-unit n l ∙ rw e

  pub patch_off : (n : ℕ) → n < units h → on n ≡ false → unit_at (unit_size h) (patch h image on f) n ≡ unit_at (unit_size h) image n
  patch_off n l e = patch-unit n l ∙ rw e

-- ---- stores one after another

-- `after` is the image with f n for each unit n that passes `on`
pub record Patched (h : Shelf) (image : List ℕ) (on : ℕ → Bool) (f : ℕ → List ℕ) (after : List ℕ) : Type 0 where
  pub len : length after ≡ image_size h
  pub unit : (n : ℕ) → n < units h → unit_at (unit_size h) after n ≡ cond (on n) (f n) (unit_at (unit_size h) image n)

-- two images of a shelf are equal when their units are
pub same_image : (h : Shelf) (a b : List ℕ) → length a ≡ image_size h → length b ≡ image_size h
    → ((n : ℕ) → n < units h → unit_at (unit_size h) a n ≡ unit_at (unit_size h) b n) → a ≡ b
same_image h = image_ext (unit_size h) (units h) (pow_pos h.u)

module _ (h : Shelf) (image : List ℕ) (f : ℕ → List ℕ) where
  pub patched_none : length image ≡ image_size h → Patched h image (λ n. false) f image
  patched_none len = record { len = len; unit = λ n l. refl }

  -- one more store
  pub patched_put : (on : ℕ → Bool) (after : List ℕ) → Patched h image on f after → (n : ℕ) → n < units h → length (f n) ≡ unit_size h
      → Patched h image (put on n true) f (put_unit (unit_size h) after n (f n))
  patched_put on after P n hn size = record {
    len = put-length (unit_size h) (units h) after P.len n (f n) hn size;
    unit = λ m hm. cases (eqb m n) (same m) (other m hm);
  }
    where
      same : (m : ℕ) → eqb m n ≡ true
          → unit_at (unit_size h) (put_unit (unit_size h) after n (f n)) m ≡ cond (put on n true m) (f m) (unit_at (unit_size h) image m)
      same m e =
          let q : m ≡ n = eqb-true m n e in
          rw e (ap (unit_at (unit_size h) (put_unit (unit_size h) after n (f n))) q ∙ unit-put_same (unit_size h) (units h) after P.len n (f n) hn size ∙ ap f (sym q))

      other : (m : ℕ) → m < units h → eqb m n ≡ false
          → unit_at (unit_size h) (put_unit (unit_size h) after n (f n)) m ≡ cond (put on n true m) (f m) (unit_at (unit_size h) image m)
      other m hm e =
          rw e (unit-put-other (unit_size h) (units h) after P.len n (f n) hn size m hm (eqb-false m n e) ∙ P.unit m hm)

  -- another test of the same units
  pub patched_test : (on on' : ℕ → Bool) (after : List ℕ) → ((n : ℕ) → n < units h → on n ≡ on' n) → Patched h image on f after → Patched h image on' f after
  patched_test on on' after same P = record {
    len = P.len;
    unit = λ n l. P.unit n l ∙ ap (λ (t : Bool). cond t (f n) (unit_at (unit_size h) image n)) (same n l);
  }

  -- what is patched is the patch
  pub patched_is : (on : ℕ → Bool) (after : List ℕ) → length image ≡ image_size h → Sized h on f → Patched h image on f after → after ≡ patch h image on f
  patched_is on after len sized P =
      same_image h after (patch h image on f) P.len (patch-length h image len on f sized)
      (λ n l. P.unit n l ∙ sym (patch-unit h image len on f sized n l))
