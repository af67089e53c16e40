-- The one or two stores of a unit write come to what it leaves. Assumes nothing.
use mathlib.Core.Path.{◌≡◌, refl, ap, ◌∙◌}
use mathlib.Core.Logic.{◌≢◌}
use mathlib.Core.Bool.{Bool, true, false, cond, ◌&&◌, ◌||◌, and-true, and-false, or-false}
use mathlib.Core.List.{List}
use Prim.Native.Nat.{ℕ, ◌-◌, ◌<◌}
use native.Mathlib.Omega.{arith}
use lib.Dec.{eqb}
use lib.ListN.{length}
use borrow.Author.Tests.{eq-eqb, ne_eqb}
use Rattle.design.specs.declared.Shelf.{Shelf}
use Rattle.design.specs.Shelf.{is_shelf}
use Rattle.placement.specs.Layout.{layout_in, stripes}
use Rattle.parity.specs.Stripe.{unit_size, units, image_size, unit_in, stripe_here, index_here, present}
use Rattle.parity.specs.inner.Stores.{put_unit}
use Rattle.parity.specs.Calls.{new_parity, unit_written}
use Rattle.parity.proofs.Patch.{Patched, patched_none, patched_test, patched_is}
use Rattle.parity.proofs.Home.{index_home}
use Rattle.parity.proofs.Written.{new-parity-length, unit-written-sized}
use Rattle.parity.proofs.Stores.{is_unit, spread, unit_is, patched_store}

-- a unit write of x to data j of stripe s
module _ (h : Shelf) (ok : is_shelf h ≡ true) (image : List ℕ) (len : length image ≡ image_size h) where
  module _ (s j : ℕ) (x : List ℕ) (hs : s < stripes (layout_in h)) (hj : j < h.k - 1) (hx : length x ≡ unit_size h) where
    -- what unit n of the stripe becomes
    abbrev new : ℕ → List ℕ
    new n = cond (eqb (index_here h n) j) x (new_parity h image s j x)

    at-data : new (unit_in h s j) ≡ x
    at-data = let l : j < h.k = omega arith in rw (index_home h ok s j hs l, eq-eqb j j refl)

    at-parity : new (unit_in h s (h.k - 1)) ≡ new_parity h image s j x
    at-parity =
        let l : h.k - 1 < h.k = omega arith in
        let ne : h.k - 1 ≢ j = omega arith in
        rw (index_home h ok s (h.k - 1) hs l, ne_eqb (h.k - 1) j ne)

    -- the units that are written: the data's and the parity's, where they are present
    abbrev written : ℕ → Bool
    written n = eqb (stripe_here h n) s && (eqb (index_here h n) j || eqb (index_here h n) (h.k - 1)) && present h n

    by_use : (n : ℕ) → n < units h
        → ((is_unit h s j n && present h (unit_in h s j)) || (is_unit h s (h.k - 1) n && present h (unit_in h s (h.k - 1)))) ≡ written n
    by_use n hn =
        spread (eqb (stripe_here h n) s) (eqb (index_here h n) j) (eqb (index_here h n) (h.k - 1))
        (λ e. ap (present h) (unit_is h ok s j n hn e)) (λ e. ap (present h) (unit_is h ok s (h.k - 1) n hn e))

    is_written : (on : ℕ → Bool) (after : List ℕ) → Patched h image on new after
        → ((n : ℕ) → on n ≡ ((is_unit h s j n && present h (unit_in h s j)) || (is_unit h s (h.k - 1) n && present h (unit_in h s (h.k - 1)))))
        → after ≡ unit_written h image s j x
    unfolding unit_written
    is_written on after P same =
        patched_is h image new written after len (unit-written-sized h ok image len s j x hs hj hx written)
        (patched_test h image new on written after (λ n hn. same n ∙ by_use n hn) P)

    -- the stores, and the units that they have written
    data_stored : (on : ℕ → Bool) (now : List ℕ) → Patched h image on new now
        → Patched h image (λ n. is_unit h s j n || on n) new (put_unit (unit_size h) now (unit_in h s j) x)
    data_stored on now P = patched_store h ok image new on now P s j hs (omega arith) x hx at-data

    parity_stored : (on : ℕ → Bool) (now : List ℕ) → Patched h image on new now
        → Patched h image (λ n. is_unit h s (h.k - 1) n || on n) new (put_unit (unit_size h) now (unit_in h s (h.k - 1)) (new_parity h image s j x))
    parity_stored on now P =
        patched_store h ok image new on now P s (h.k - 1) hs (omega arith) (new_parity h image s j x) (new-parity-length h ok image len s j x hs hj hx) at-parity

    pub write_both : present h (unit_in h s j) ≡ true → present h (unit_in h s (h.k - 1)) ≡ true
        → put_unit (unit_size h) (put_unit (unit_size h) image (unit_in h s (h.k - 1)) (new_parity h image s j x)) (unit_in h s j) x ≡ unit_written h image s j x
    write_both p q =
        is_written _ _ (data_stored _ _ (parity_stored _ _ (patched_none h image new len))) (λ n. rw (p, q) (simp (and-true, or-false)))

    pub write_data : present h (unit_in h s j) ≡ true → present h (unit_in h s (h.k - 1)) ≡ false
        → put_unit (unit_size h) image (unit_in h s j) x ≡ unit_written h image s j x
    write_data p q = is_written _ _ (data_stored _ _ (patched_none h image new len)) (λ n. rw (p, q) (simp (and-true, and-false)))

    pub write_parity : present h (unit_in h s j) ≡ false → present h (unit_in h s (h.k - 1)) ≡ true
        → put_unit (unit_size h) image (unit_in h s (h.k - 1)) (new_parity h image s j x) ≡ unit_written h image s j x
    write_parity p q =
        is_written _ _ (parity_stored _ _ (patched_none h image new len)) (λ n. rw (p, q) (simp (and-true, and-false, or-false)))
