-- "Two such sequences on one sheet, ending with no disk lost and having the same accepted writes in the same order at each
-- address, end with equal images, wherever the losses fell." Assumes nothing.
use mathlib.Core.Path.{◌≡◌, sym, ap, ◌∙◌}
use mathlib.Core.List.{List}
use Prim.Native.Nat.{ℕ, ◌+◌, ◌-◌, ◌*◌, ◌<◌}
use lib.Arith.{digits_lt}
use lib.ListN.{length}
use Rattle.design.specs.declared.Shelf.{Shelf}
use Rattle.design.specs.Loss.{no_loss, with_loss}
use Rattle.design.proofs.Losses.{none_whole}
use Rattle.placement.specs.Layout.{layout_in, stripes, addresses}
use Rattle.parity.specs.Units.{zeros}
use Rattle.parity.specs.Stripe.{unit_size}
use Rattle.parity.proofs.Memory.{data_of, Keeps, memory_determines}
use Rattle.parity.proofs.Remembered.{asked_same}
use Rattle.sequences.specs.Sequence.{Event, State, Run, shelf_from}
use Rattle.sequences.specs.Written.{written, last_or, last_written}
use Rattle.sequences.proofs.Shelves.{run_shelf, run_loss}
use Rattle.sequences.proofs.Remembers.{run_remembers}

-- ---- memories that are the same at the addresses below N

module _ (h : Shelf) (memory memory' : ℕ → List ℕ) (same : (a : ℕ) → a < addresses (layout_in h) → memory a ≡ memory' a) where
  data_same : (s i : ℕ) → s < stripes (layout_in h) → i < h.k - 1 → data_of h memory s i ≡ data_of h memory' s i
  unfolding data_of
  data_same s i hs hi = same (s * (h.k - 1) + i) (digits_lt hs hi)

  keeps_same : (image : List ℕ) → Keeps h image memory → ((a : ℕ) → length (memory' a) ≡ unit_size h) → Keeps h image memory'
  keeps_same image K sized = record {
    stored = K.stored;
    sized = sized;
    same = λ s i hs hi p. K.same s i hs hi p ∙ asked_same h memory' memory s (λ j hj. data_same s j hs hj) i hi;
  }

-- ---- the end of a sequence

-- with no disk lost the shelf is the one that was opened
whole-shelf : (sheet : List ℕ) (events : List Event) (z : State) → Run sheet events z → z.shelf.loss ≡ no_loss → z.shelf ≡ with_loss (shelf_from sheet) no_loss
whole-shelf sheet events z R none =
    run_shelf sheet events z R ∙ ap (with_loss (shelf_from sheet)) (sym (run_loss sheet events z R) ∙ none)

-- and the image keeps the units last written
whole_keeps : (sheet : List ℕ) (events : List Event) (z : State) → Run sheet events z → z.shelf.loss ≡ no_loss
    → Keeps (with_loss (shelf_from sheet) no_loss) z.image (last_written (shelf_from sheet) events)
whole_keeps sheet events z R none = rw (whole-shelf sheet events z R none) at (run_remembers sheet events z R)

-- "the same accepted writes in the same order at each address": the lists of the units written there are equal
pub equal_images : (sheet : List ℕ) (one two : List Event) (x y : State) → Run sheet one x → Run sheet two y
    → x.shelf.loss ≡ no_loss → y.shelf.loss ≡ no_loss
    → ((a : ℕ) → a < addresses (layout_in (shelf_from sheet)) → written (shelf_from sheet) one a ≡ written (shelf_from sheet) two a)
    → (x.image ≡ y.image) × (x.shelf ≡ y.shelf)
unfolding last_written
equal_images sheet one two x y P Q whole whole' same =
    let h : Shelf = with_loss (shelf_from sheet) no_loss in
    let A = whole_keeps sheet one x P whole in
    let B = whole_keeps sheet two y Q whole' in
    let last : (a : ℕ) → a < addresses (layout_in h) → last_written (shelf_from sheet) one a ≡ last_written (shelf_from sheet) two a
    = λ a l. ap (last_or (zeros (unit_size h))) (same a l) in (
      memory_determines h (last_written (shelf_from sheet) two) x.image y.image none_whole (keeps_same h _ _ last x.image A B.sized) B,
      whole-shelf sheet one x P whole ∙ sym (whole-shelf sheet two y Q whole'),
    )
