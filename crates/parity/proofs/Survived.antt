-- Losing a disk, any bytes that then stand on it, and a rebuild leave the memory of an image as it was, and the shelf a shelf.
-- Assumes nothing.
use mathlib.Core.Path.{◌≡◌, ◌∙◌}
use mathlib.Core.Bool.{true}
use mathlib.Core.List.{List}
use Prim.Native.Nat.{ℕ, ◌<◌}
use lib.ListN.{length}
use borrow.Author.Tests.{lt-ltb}
use Rattle.design.specs.declared.Loss.{Loss}
use Rattle.design.specs.declared.Shelf.{Shelf}
use Rattle.design.specs.Loss.{no_loss, disk_loss, is_whole, loss_below, with_loss}
use Rattle.design.specs.Shelf.{is_shelf}
use Rattle.design.proofs.Losses.{none_below, disk_below}
use Rattle.design.proofs.ShelfTests.{shelf_parts, shelf-whole}
use Rattle.parity.specs.Units.{unit_at}
use Rattle.parity.specs.Stripe.{unit_size, units, image_size, unit_in, present, cell}
use Rattle.parity.specs.Calls.{rebuilt_image}
use Rattle.parity.proofs.Cases.{cases}
use Rattle.parity.proofs.Present.{whole-present}
use Rattle.parity.proofs.Home.{unit-lt}
use Rattle.parity.proofs.Rebuilt.{rebuilt_length, rebuilt_kept, rebuilt_lost}
use Rattle.parity.proofs.Memory.{data_of, asked, Keeps, others-asked}

-- ---- the shelf with another loss

pub with_loss_shelf : (h : Shelf) (loss : Loss) → is_shelf h ≡ true → loss_below loss h.v ≡ true → is_shelf (with_loss h loss) ≡ true
with_loss_shelf h loss ok l =
    let w = shelf_parts h ok in
    shelf-whole (with_loss h loss)
    (record { limits = w.limits; zero = w.zero; below = w.below; different = w.different; often = w.often; paired = w.paired; loss = l })

pub lose_shelf : (h : Shelf) (d : ℕ) → is_shelf h ≡ true → d < h.v → is_shelf (with_loss h (disk_loss d)) ≡ true
lose_shelf h d ok hd = with_loss_shelf h (disk_loss d) ok (disk_below d h.v ∙ lt-ltb d h.v hd)

pub rebuild_shelf : (h : Shelf) → is_shelf h ≡ true → is_shelf (with_loss h no_loss) ≡ true
rebuild_shelf h ok = with_loss_shelf h no_loss ok (none_below h.v)

-- ---- its memory

-- it does not look at the lost disk
pub kept_elsewhere : (h : Shelf) (image after : List ℕ) (memory : ℕ → List ℕ) → Keeps h image memory → length after ≡ image_size h
    → ((n : ℕ) → n < units h → present h n ≡ true → unit_at (unit_size h) after n ≡ unit_at (unit_size h) image n) → Keeps h after memory
unfolding cell
kept_elsewhere h image after memory K size same = record {
  stored = record { shelf = K.stored.shelf; size = size };
  sized = K.sized;
  same = λ s i hs hi p. same (unit_in h s i) (unit-lt h K.stored.shelf s i hs hi) p ∙ K.same s i hs hi p;
}

module _ (h : Shelf) (image : List ℕ) (memory : ℕ → List ℕ) (K : Keeps h image memory) where
  ok : is_shelf h ≡ true
  ok = K.stored.shelf

  pub lose_keeps : (d : ℕ) → is_whole h.loss ≡ true → d < h.v → Keeps (with_loss h (disk_loss d)) image memory
  unfolding unit_in cell asked data_of
  lose_keeps d whole hd = record {
    stored = record { shelf = lose_shelf h d ok hd; size = K.stored.size };
    sized = K.sized;
    same = λ s i hs hi p. K.same s i hs hi (whole-present h whole (unit_in h s i));
  }

  pub rebuild_keeps_memory : Keeps (with_loss h no_loss) (rebuilt_image h image) memory
  unfolding unit_in cell asked data_of
  rebuild_keeps_memory = record {
    stored = record { shelf = rebuild_shelf h ok; size = rebuilt_length h ok image K.stored.size };
    sized = K.sized;
    same = λ s i hs hi p. cases (present h (unit_in h s i))
        (λ e. rebuilt_kept h ok image K.stored.size s i hs hi e ∙ K.same s i hs hi e)
        (λ e. rebuilt_lost h ok image K.stored.size s i hs hi e ∙ others-asked h image memory K s i hs hi e);
  }
