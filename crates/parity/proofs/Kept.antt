-- Every unit that a call does not write keeps its bytes. Assumes nothing.
use mathlib.Core.Path.{◌≡◌, ◌∙◌}
use mathlib.Core.Bool.{Bool, true, false, not}
use mathlib.Core.List.{List}
use Prim.Native.Nat.{ℕ, ◌-◌, ◌*◌, ◌<◌}
use lib.ListN.{length}
use Rattle.design.specs.declared.Shelf.{Shelf}
use Rattle.design.specs.Shelf.{is_shelf}
use Rattle.placement.specs.Layout.{layout_in, stripes}
use Rattle.parity.specs.Units.{unit_at}
use Rattle.parity.specs.Stripe.{unit_size, depth, units, image_size, present}
use Rattle.parity.specs.Calls.{unit_written, stripe_written, restores, restored, rebuilt_image}
use Rattle.parity.proofs.Patch.{patch_off}
use Rattle.parity.proofs.Rebuilt.{restores-all, restored-sized, restored-length}
use Rattle.parity.proofs.Written.{unit-written-sized, unit-written-length, stripe-written-sized, stripe-written-length}
use Rattle.parity.proofs.Sets.{write_set, stripe_set}

-- the units that fail `on` are as they were
pub record Kept (h : Shelf) (on : ℕ → Bool) (image after : List ℕ) : Type 0 where
  pub size : length after ≡ image_size h
  pub unit : (n : ℕ) → n < units h → on n ≡ false → unit_at (unit_size h) after n ≡ unit_at (unit_size h) image n

module _ (h : Shelf) (ok : is_shelf h ≡ true) (image : List ℕ) (len : length image ≡ image_size h) where
  pub unit_write_kept : (s j : ℕ) (x : List ℕ) → s < stripes (layout_in h) → j < h.k - 1 → length x ≡ unit_size h
      → Kept h (write_set h s j) image (unit_written h image s j x)
  unfolding unit_written write_set
  unit_write_kept s j x hs hj hx = record {
    size = unit-written-length h ok image len s j x hs hj hx;
    unit = patch_off h image len _ _ (unit-written-sized h ok image len s j x hs hj hx _);
  }

  pub stripe_write_kept : (s : ℕ) (buffer : List ℕ) → length buffer ≡ (h.k - 1) * unit_size h → Kept h (stripe_set h s) image (stripe_written h image s buffer)
  unfolding stripe_written stripe_set
  stripe_write_kept s buffer hb = record {
    size = stripe-written-length h ok image len s buffer hb;
    unit = patch_off h image len _ _ (stripe-written-sized h ok image len s buffer hb _);
  }

  pub restore_kept : (from to : ℕ) → Kept h (restores h from to) image (restored h image from to)
  unfolding restored
  restore_kept from to = record { size = restored-length h ok image len from to; unit = patch_off h image len _ _ (restored-sized h ok image len _) }

  pub rebuild_kept : Kept h (λ n. not (present h n)) image (rebuilt_image h image)
  rebuild_kept =
      let K = restore_kept 0 (depth h) in
      record { size = K.size; unit = λ n hn e. K.unit n hn (restores-all h ok n ∙ e) }
