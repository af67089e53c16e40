-- A stripe write takes the units of the stripe one after another: what it knows of each, and what it has done before it.
-- Assumes nothing.
use mathlib.Core.Path.{◌≡◌, refl, sym, ap, ◌∙◌}
use mathlib.Core.Logic.{◌≢◌}
use mathlib.Core.Bool.{true, false}
use mathlib.Core.List.{List}
use Prim.Native.Nat.{ℕ, ◌+◌, ◌-◌, ◌*◌, ◌≤◌, ◌<◌}
use native.Mathlib.Numerals.{add-one}
use native.Mathlib.Omega.{arith}
use lib.ListN.{length}
use borrow.Author.Tests.{eq-eqb, ne_eqb}
use Rattle.design.specs.declared.Shelf.{Shelf}
use Rattle.design.specs.Count.{count}
use Rattle.design.proofs.Counting.{count_true, count_false, count-le}
use Rattle.design.proofs.ShelfTests.{shelf_parts}
use Rattle.parity.specs.Units.{unit_at, xor_sum}
use Rattle.parity.specs.Stripe.{unit_size, units, unit_in, present}
use Rattle.parity.specs.Calls.{with_parity, stripe_written, stripe_writes}
use Rattle.parity.specs.inner.Stores.{put_unit}
use Rattle.parity.specs.inner.Shapes.{Held, StripeCall}
use Rattle.parity.proofs.Image.{unit_fits}
use Rattle.parity.proofs.Home.{unit-lt}
use Rattle.parity.proofs.StripeStores.{StripeBegun, stripe_none, stripe-put, stripe_skip, stripe-all}

-- the units of the stripe before i are written and counted, the lost one left out
pub record Begun (h : Shelf) (image : List ℕ) (s : ℕ) (buffer : List ℕ) (i : ℕ) (now : List ℕ) (written : ℕ) : Type 0 where
  pub stored : StripeBegun h image s buffer i now
  pub counted : written ≡ count (λ j. present h (unit_in h s j)) i

pub begun_few : {h : Shelf} {image : List ℕ} {s : ℕ} {buffer : List ℕ} {i : ℕ} {now : List ℕ} {written : ℕ} → Begun h image s buffer i now written → written ≤ i
begun_few {h} {s = s} {i = i} B = omega (arith, B.counted, count-le (λ j. present h (unit_in h s j)) i)

module _ {h : Shelf} {image : List ℕ} {s : ℕ} {buffer : List ℕ} (t : StripeCall h image s buffer) where
  abbrev held : Held h image
  held = t.stored

  -- ---- the buffer

  pub call_two : 2 ≤ h.k
  call_two = (shelf_parts h held.shelf).limits.k_least

  pub data_unit : (i : ℕ) → i < h.k - 1 → unit_at (unit_size h) buffer i ≡ with_parity h buffer i
  unfolding with_parity
  data_unit i l = let ne : i ≢ h.k - 1 = omega arith in rw (ne_eqb i (h.k - 1) ne)

  pub parity-unit : xor_sum (unit_size h) (unit_at (unit_size h) buffer) (h.k - 1) ≡ with_parity h buffer (h.k - 1)
  unfolding with_parity
  parity-unit = rw (eq-eqb (h.k - 1) (h.k - 1) refl)

  -- ---- the image

  pub begun_none : Begun h image s buffer 0 image 0
  unfolding count
  begun_none = record { stored = stripe_none h held.shelf image held.size s buffer t.exact; counted = refl }

  module _ {i : ℕ} {now : List ℕ} {written : ℕ} (B : Begun h image s buffer i now written) where
    pub begun_size : length now ≡ length image
    begun_size = B.stored.len ∙ sym held.size

    -- unit i has number n
    module _ (hi : i < h.k) {n : ℕ} (e : n ≡ unit_in h s i) where
      pub begun_fits : n * unit_size h + unit_size h ≤ length now
      begun_fits = rw (begun_size, e) (unit_fits (unit_size h) (units h) image held.size (unit_in h s i) (unit-lt h held.shelf s i t.stripe hi))

      pub begun_put : {after x : List ℕ} → present h n ≡ true → x ≡ with_parity h buffer i
          → after ≡ put_unit (unit_size h) now n x → Begun h image s buffer (i + 1) after (written + 1)
      begun_put {after} p w put =
          let here : present h (unit_in h s i) ≡ true = ap (present h) (sym e) ∙ p in
          let same : after ≡ put_unit (unit_size h) now (unit_in h s i) (with_parity h buffer i) = put ∙ rw (e, w) in
          record {
            stored = rw same (stripe-put h held.shelf image held.size s buffer t.exact i t.stripe hi now B.stored here);
            counted = rw (B.counted, add-one i) (omega (arith, count_true (λ j. present h (unit_in h s j)) i here));
          }

      pub begun_skip : present h n ≡ false → Begun h image s buffer (i + 1) now written
      begun_skip p =
          let gone : present h (unit_in h s i) ≡ false = ap (present h) (sym e) ∙ p in
          record {
            stored = stripe_skip h held.shelf image held.size s buffer t.exact i t.stripe hi now B.stored gone;
            counted = rw (B.counted, add-one i) (sym (count_false (λ j. present h (unit_in h s j)) i gone));
          }

  pub begun_all : {now : List ℕ} {written : ℕ} → Begun h image s buffer (h.k - 1 + 1) now written
      → (written ≡ stripe_writes h s) × (now ≡ stripe_written h image s buffer)
  unfolding stripe_writes
  begun_all {now} B =
      let k : h.k - 1 + 1 ≡ h.k = omega (arith, call_two) in
      (rw k at B.counted, stripe-all h held.shelf image held.size s buffer t.exact now (rw k at B.stored))
