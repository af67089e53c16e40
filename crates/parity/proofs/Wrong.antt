-- What a scrub counts, and that a unit write where data and parity are present leaves the exclusive-or of every stripe as it
-- was: a wrong one stays wrong in the same bits. Assumes nothing.
use mathlib.Core.Path.{◌≡◌, refl, sym, ap, ap₂, ◌∙◌}
use mathlib.Core.Logic.{◌↔◌, ◌≢◌}
use mathlib.Core.Bool.{Bool, true, false, not}
use mathlib.Core.List.{List}
use Prim.Native.Nat.{ℕ, suc, ◌-◌, ◌<◌}
use native.Mathlib.Omega.{arith}
use lib.Dec.{eqb}
use lib.ListN.{length}
use borrow.Author.Tests.{eqb-true, eqb-false, not-false}
use Rattle.std.specs.Prelude.{Ok}
use Rattle.design.specs.declared.Shelf.{Shelf}
use Rattle.design.specs.Count.{count}
use Rattle.design.specs.Shelf.{is_shelf}
use Rattle.design.proofs.Counting.{count_ext, count_none, none_counted}
use Rattle.placement.specs.Layout.{layout_in, stripes}
use Rattle.design.specs.Refusals.{first_broken, answered}
use Rattle.parity.specs.Units.{zeros, xor_u, xor_sum, is_zero, put}
use Rattle.parity.specs.Stripe.{unit_size, image_size, unit_in, present, cell, wrong}
use Rattle.parity.specs.Calls.{new_parity, unit_written, whole_rules, scrubbed, wrong_of}
use Rattle.parity.proofs.Cases.{cases, put_other}
use Rattle.parity.proofs.Xor.{xor_u_assoc, xor_u-length, xor_u_self, xor_u-zeros, xor_u_cancel, zero_exactly, xor_sum_ext, xor_sum-length, xor_sum-put}
use Rattle.parity.proofs.Cells.{cell-length}
use Rattle.parity.proofs.Rebuilt.{Right}
use Rattle.parity.proofs.Written.{data_written, parity-written, away_kept, beside_kept}
use Rattle.parity.proofs.Accepted.{whole_accepted}

-- ---- scrub

-- two tests that fail alike are one
fail_alike : (x y : Bool) → (x ≡ false → y ≡ false) → (y ≡ false → x ≡ false) → x ≡ y
fail_alike true true f g = refl
fail_alike true false f g = g refl
fail_alike false y f g = sym (f refl)

module _ (h : Shelf) (ok : is_shelf h ≡ true) (image : List ℕ) (len : length image ≡ image_size h) where
  pub right_exactly : (s : ℕ) → s < stripes (layout_in h) → (wrong h image s ≡ false) ↔ Right h image s
  unfolding wrong
  right_exactly s hs =
      let all : List ℕ = xor_sum (unit_size h) (cell h image s) h.k in
      let size : length all ≡ unit_size h = xor_sum-length (unit_size h) (cell h image s) h.k (λ i hi. cell-length h ok image len s i hs hi) in
      let e = zero_exactly all in (
        λ w. e.0 (not-false (is_zero all) w) ∙ ap zeros size,
        λ r. ap not (e.1 (r ∙ ap zeros (sym size))),
      )

module _ (h : Shelf) (image : List ℕ) (accepted : first_broken (whole_rules h (length image)) ≡ Ok tt) where
  abbrev right_at : (s : ℕ) → s < stripes (layout_in h) → (wrong h image s ≡ false) ↔ Right h image s
  right_at = let w = (whole_accepted h image).0 accepted in right_exactly h w.stored.shelf image w.stored.size

  scrubbed_is : wrong_of (scrubbed h image) ≡ count (wrong h image) (stripes (layout_in h))
  unfolding scrubbed answered
  scrubbed_is = rw accepted

  -- a scrub counts the stripes that are not right: those that pass any test which only the right ones fail
  pub scrub_counts : (test : ℕ → Bool) → ((s : ℕ) → s < stripes (layout_in h) → (test s ≡ false) ↔ Right h image s)
      → wrong_of (scrubbed h image) ≡ count test (stripes (layout_in h))
  scrub_counts test exactly =
      scrubbed_is
      ∙ count_ext _ _ (stripes (layout_in h))
      (λ s hs. fail_alike (wrong h image s) (test s) (λ w. (exactly s hs).1 ((right_at s hs).0 w)) (λ t. (right_at s hs).1 ((exactly s hs).0 t)))

  pub scrub_zero : (wrong_of (scrubbed h image) ≡ 0) ↔ ((s : ℕ) → s < stripes (layout_in h) → Right h image s)
  scrub_zero = (
    λ e s hs. (right_at s hs).0 (none_counted (wrong h image) (stripes (layout_in h)) (sym scrubbed_is ∙ e) s hs),
    λ r. scrubbed_is ∙ count_none (wrong h image) (stripes (layout_in h)) (λ s hs. (right_at s hs).1 (r s hs)),
  )

-- ---- unit write

-- data j of n exchanged for x, and the parity, unit n, changed by both
syndrome : (U : ℕ) (c : ℕ → List ℕ) (j n : ℕ) (x : List ℕ) → j < n → ((i : ℕ) → i < suc n → length (c i) ≡ U) → length x ≡ U
    → xor_sum U (put (put c j x) n (xor_u (c n) (xor_u (c j) x))) (suc n) ≡ xor_sum U c (suc n)
syndrome U c j n x h size hx =
    let ne : n ≢ j = omega arith in
    let change : List ℕ = xor_u (c j) x in
    let all : List ℕ = xor_sum U c (suc n) in
    let lc : length change ≡ U = xor_u-length U (c j) x (size j (omega arith)) hx in
    let la : length all ≡ U = xor_sum-length U c (suc n) size in
    let ln : length (c n) ≡ U = size n (omega arith) in
    let cn : put c j x n ≡ c n = put_other c j x n ne in
    xor_sum-put U (put c j x) n (xor_u (c n) change) (suc n) (omega arith) (ap length cn ∙ ln ∙ sym (xor_u-length U (c n) change ln lc))
    ∙ ap₂ (λ (y z : List ℕ). xor_u y (xor_u z (xor_u (c n) change))) (xor_sum-put U c j x (suc n) (omega arith) (size j (omega arith) ∙ sym hx)) cn
    ∙ ap (xor_u (xor_u all change)) (xor_u_cancel (c n) change (ln ∙ sym lc))
    ∙ xor_u_assoc all change change
    ∙ ap (xor_u all) (xor_u_self change ∙ ap zeros lc)
    ∙ xor_u-zeros U all la

module _ (h : Shelf) (ok : is_shelf h ≡ true) (image : List ℕ) (len : length image ≡ image_size h) where
  module _ (s j : ℕ) (x : List ℕ) (hs : s < stripes (layout_in h)) (hj : j < h.k - 1) (hx : length x ≡ unit_size h) where
    module _ (data-here : present h (unit_in h s j) ≡ true) (parity_here : present h (unit_in h s (h.k - 1)) ≡ true) where
      written_own : (i : ℕ) → i < h.k
          → cell h (unit_written h image s j x) s i ≡ put (put (cell h image s) j x) (h.k - 1) (xor_u (cell h image s (h.k - 1)) (xor_u (cell h image s j) x)) i
      unfolding new_parity
      written_own i hi = cases (eqb i (h.k - 1)) parity other
        where
          after : ℕ → List ℕ
          after = cell h (unit_written h image s j x) s

          changed : List ℕ
          changed = xor_u (cell h image s (h.k - 1)) (xor_u (cell h image s j) x)

          parity : eqb i (h.k - 1) ≡ true → after i ≡ put (put (cell h image s) j x) (h.k - 1) changed i
          parity e = rw e (ap after (eqb-true i (h.k - 1) e) ∙ parity-written h ok image len s j x hs hj hx parity_here ∙ rw data-here)

          other : eqb i (h.k - 1) ≡ false → after i ≡ put (put (cell h image s) j x) (h.k - 1) changed i
          other e = rw e (cases (eqb i j)
              (λ d. rw d (ap after (eqb-true i j d) ∙ data_written h ok image len s j x hs hj hx data-here))
              (λ d. rw d (beside_kept h ok image len s j x hs hj hx s i hs hi (eqb-false i j d) (eqb-false i (h.k - 1) e))))

      pub unit_write_keeps : (t : ℕ) → t < stripes (layout_in h)
          → xor_sum (unit_size h) (cell h (unit_written h image s j x) t) h.k ≡ xor_sum (unit_size h) (cell h image t) h.k
      unit_write_keeps t ht = cases (eqb t s) own away
        where
          k_is : h.k ≡ suc (h.k - 1)
          k_is = omega arith

          changed : ℕ → List ℕ
          changed = put (put (cell h image s) j x) (h.k - 1) (xor_u (cell h image s (h.k - 1)) (xor_u (cell h image s j) x))

          own : eqb t s ≡ true → xor_sum (unit_size h) (cell h (unit_written h image s j x) t) h.k ≡ xor_sum (unit_size h) (cell h image t) h.k
          own e =
              rw (eqb-true t s e)
              (xor_sum_ext (unit_size h) (cell h (unit_written h image s j x) s) changed h.k written_own
              ∙ ap (xor_sum (unit_size h) changed) k_is
              ∙ syndrome (unit_size h) (cell h image s) j (h.k - 1) x hj (λ i hi. cell-length h ok image len s i hs (omega arith)) hx
              ∙ ap (xor_sum (unit_size h) (cell h image s)) (sym k_is))

          away : eqb t s ≡ false → xor_sum (unit_size h) (cell h (unit_written h image s j x) t) h.k ≡ xor_sum (unit_size h) (cell h image t) h.k
          away e = xor_sum_ext (unit_size h) _ _ h.k (λ i hi. away_kept h ok image len s j x hs hj hx t i ht hi (eqb-false t s e))
