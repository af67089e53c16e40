-- The units of the image after a unit write and after a stripe write. Assumes nothing.
use mathlib.Core.Path.{◌≡◌, refl, ◌∙◌}
use mathlib.Core.Logic.{◌≢◌}
use mathlib.Core.Bool.{Bool, true, false, cond, ◌&&◌, ◌||◌, and-false}
use mathlib.Core.List.{List}
use Prim.Native.Nat.{ℕ, ◌-◌, ◌*◌, ◌<◌}
use native.Mathlib.Omega.{arith}
use lib.Dec.{eqb}
use lib.ListN.{length}
use borrow.Author.Tests.{eq-eqb, ne_eqb, eqb-false}
use Rattle.design.specs.declared.Shelf.{Shelf}
use Rattle.design.specs.Shelf.{is_shelf}
use Rattle.placement.specs.Layout.{layout_in, stripes}
use Rattle.parity.specs.Units.{unit_at, xor_u}
use Rattle.parity.specs.Stripe.{unit_size, image_size, unit_in, index_here, present, cell}
use Rattle.parity.specs.Calls.{new_parity, unit_written, with_parity, stripe_written}
use Rattle.parity.proofs.Cases.{cases, put_each}
use Rattle.parity.proofs.Xor.{xor_u-length, xor_sum-length}
use Rattle.parity.proofs.Image.{unit-length}
use Rattle.parity.proofs.Patch.{Sized, patch-length}
use Rattle.parity.proofs.Home.{stripe_home, index_home, index_here-lt}
use Rattle.parity.proofs.Cells.{cell-length, cell-patch}

-- ---- a unit write of x to data j of stripe s

module _ (h : Shelf) (ok : is_shelf h ≡ true) (image : List ℕ) (len : length image ≡ image_size h) where
  module _ (s j : ℕ) (x : List ℕ) (hs : s < stripes (layout_in h)) (hj : j < h.k - 1) (hx : length x ≡ unit_size h) where
    size : (i : ℕ) → i < h.k → length (cell h image s i) ≡ unit_size h
    size i hi = cell-length h ok image len s i hs hi

    pub new-parity-length : length (new_parity h image s j x) ≡ unit_size h
    unfolding new_parity
    new-parity-length = cases (present h (unit_in h s j)) here lost
      where
        here : present h (unit_in h s j) ≡ true → length (new_parity h image s j x) ≡ unit_size h
        here e =
            rw e
            (xor_u-length (unit_size h) (cell h image s (h.k - 1)) (xor_u (cell h image s j) x) (size (h.k - 1) (omega arith))
            (xor_u-length (unit_size h) (cell h image s j) x (size j (omega arith)) hx))

        lost : present h (unit_in h s j) ≡ false → length (new_parity h image s j x) ≡ unit_size h
        lost e =
            rw e
            (xor_sum-length (unit_size h) _ (h.k - 1)
            (λ i hi. put_each (cell h image s) _ x (λ (y : List ℕ). length y ≡ unit_size h) i (λ p. hx) (λ p. size i (omega arith))))

    new-length : (i : ℕ) → length (cond (eqb i j) x (new_parity h image s j x)) ≡ unit_size h
    new-length i = cases (eqb i j) (λ e. rw e hx) (λ e. rw e new-parity-length)

    pub unit-written-sized : (on : ℕ → Bool) → Sized h on (λ n. cond (eqb (index_here h n) j) x (new_parity h image s j x))
    unit-written-sized on n hn e = new-length (index_here h n)

    pub unit-written-length : length (unit_written h image s j x) ≡ image_size h
    unfolding unit_written
    unit-written-length = patch-length h image len _ _ (unit-written-sized _)

    pub unit-written : (t i : ℕ) → t < stripes (layout_in h) → i < h.k
        → cell h (unit_written h image s j x) t i ≡ cond (eqb t s && (eqb i j || eqb i (h.k - 1)) && present h (unit_in h t i)) (cond (eqb i j) x (new_parity h image s j x)) (cell h image t i)
    unfolding unit_written
    unit-written t i ht hi =
        cell-patch h ok image len _ _ (unit-written-sized _) t i ht hi
        ∙ rw (stripe_home h ok t i ht hi, index_home h ok t i ht hi)

    pub data_written : present h (unit_in h s j) ≡ true → cell h (unit_written h image s j x) s j ≡ x
    data_written e = let l : j < h.k = omega arith in unit-written s j hs l ∙ rw (eq-eqb s s refl, eq-eqb j j refl, e)

    pub parity-written : present h (unit_in h s (h.k - 1)) ≡ true → cell h (unit_written h image s j x) s (h.k - 1) ≡ new_parity h image s j x
    parity-written e =
        let l : h.k - 1 < h.k = omega arith in
        let ne : h.k - 1 ≢ j = omega arith in
        unit-written s (h.k - 1) hs l ∙ rw (eq-eqb s s refl, ne_eqb (h.k - 1) j ne, eq-eqb (h.k - 1) (h.k - 1) refl, e)

    -- every other unit is as it was: of another stripe, of this one, and on the lost disk
    module _ (t i : ℕ) (ht : t < stripes (layout_in h)) (hi : i < h.k) where
      pub away_kept : t ≢ s → cell h (unit_written h image s j x) t i ≡ cell h image t i
      away_kept ne = unit-written t i ht hi ∙ rw (ne_eqb t s ne)

      pub beside_kept : i ≢ j → i ≢ h.k - 1 → cell h (unit_written h image s j x) t i ≡ cell h image t i
      beside_kept nd np = unit-written t i ht hi ∙ rw (ne_eqb i j nd, ne_eqb i (h.k - 1) np, and-false (eqb t s))

  -- ---- a stripe write

  module _ (s : ℕ) (buffer : List ℕ) (hb : length buffer ≡ (h.k - 1) * unit_size h) where
    pub with_parity-length : (i : ℕ) → i < h.k → length (with_parity h buffer i) ≡ unit_size h
    unfolding with_parity
    with_parity-length i hi = cases (eqb i (h.k - 1)) parity other
      where
        part : (j : ℕ) → j < h.k - 1 → length (unit_at (unit_size h) buffer j) ≡ unit_size h
        part j hj = unit-length (unit_size h) (h.k - 1) buffer hb j hj

        parity : eqb i (h.k - 1) ≡ true → length (with_parity h buffer i) ≡ unit_size h
        parity e = rw e (xor_sum-length (unit_size h) (unit_at (unit_size h) buffer) (h.k - 1) part)

        other : eqb i (h.k - 1) ≡ false → length (with_parity h buffer i) ≡ unit_size h
        other e = rw e (part i (let ne : i ≢ h.k - 1 = eqb-false i (h.k - 1) e in omega arith))

    pub stripe-written-sized : (on : ℕ → Bool) → Sized h on (λ n. with_parity h buffer (index_here h n))
    stripe-written-sized on n hn e = with_parity-length (index_here h n) (index_here-lt h ok n hn)

    pub stripe-written-length : length (stripe_written h image s buffer) ≡ image_size h
    unfolding stripe_written
    stripe-written-length = patch-length h image len _ _ (stripe-written-sized _)

    pub stripe-written : (t i : ℕ) → t < stripes (layout_in h) → i < h.k
        → cell h (stripe_written h image s buffer) t i ≡ cond (eqb t s && present h (unit_in h t i)) (with_parity h buffer i) (cell h image t i)
    unfolding stripe_written
    stripe-written t i ht hi =
        cell-patch h ok image len _ _ (stripe-written-sized _) t i ht hi ∙ rw (stripe_home h ok t i ht hi, index_home h ok t i ht hi)
