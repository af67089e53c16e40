-- Which stripes have a unit on a disk, and on the lost one. Assumes nothing.
use mathlib.Core.Path.{◌≡◌, sym, ap, ◌∙◌}
use mathlib.Core.Logic.{◌↔◌}
use mathlib.Core.Bool.{true, false, not}
use Prim.Native.Nat.{ℕ, ◌<◌}
use lib.Dec.{eqb}
use borrow.Author.Tests.{eq-eqb, eqb-true, not-false}
use Rattle.design.specs.declared.Shelf.{Shelf}
use Rattle.design.specs.Count.{nth}
use Rattle.design.specs.Loss.{is_lost}
use Rattle.design.specs.Shelf.{is_shelf}
use Rattle.design.proofs.Losses.{lost-lt}
use Rattle.design.proofs.ShelfTests.{shelf_parts}
use Rattle.placement.specs.Layout.{layout_in, stripes, tuple_of, disk_of}
use Rattle.placement.proofs.Held.{holds-disk, held_at}
use Rattle.parity.specs.Stripe.{unit_in, disk_at, present, position_in}
use Rattle.parity.specs.Calls.{on_disk}
use Rattle.parity.proofs.Index.{index_of, index_lt, position_index, position_in_lt}
use Rattle.parity.proofs.Present.{present_is}
use Rattle.parity.proofs.Home.{disk_home}

-- unit i of stripe s is on disk d
pub record UnitOn (h : Shelf) (s d i : ℕ) : Type 0 where
  pub below : i < h.k
  pub disk : disk_at h (unit_in h s i) ≡ d

module _ (h : Shelf) (ok : is_shelf h ≡ true) where
  pub lost_below : (d : ℕ) → is_lost h d ≡ true → d < h.v
  lost_below d e = lost-lt h.loss h.v d (shelf_parts h ok).loss e

  module _ (s : ℕ) (hs : s < stripes (layout_in h)) where
    pub unit_on_disk : (i : ℕ) → i < h.k → on_disk h s (disk_at h (unit_in h s i)) ≡ true
    unit_on_disk i hi =
        rw (disk_home h ok s i hs hi)
        (holds-disk (layout_in h).design (tuple_of (layout_in h) s) (position_in h s i) (position_in_lt h ok s i hi))

    -- the unit of a stripe that a disk has
    pub on_disk-unit : (d : ℕ) → on_disk h s d ≡ true → (i : ℕ) × UnitOn h s d i
    on_disk-unit d e =
        let p : ℕ = nth (λ p. eqb (disk_of (layout_in h) s p) d) h.k 0 in
        let at = held_at (layout_in h).design (tuple_of (layout_in h) s) d e in
        let i : ℕ = index_of h s p in
        let hi : i < h.k = index_lt h ok s p at.below in (
          i,
          record {
            below = hi;
            disk = disk_home h ok s i hs hi ∙ ap (disk_of (layout_in h) s) (position_index h ok s p at.below) ∙ eqb-true _ d at.passes;
          },
        )

    -- a unit is lost exactly where the stripe meets the lost disk in it
    pub lost_exactly : (d i : ℕ) → is_lost h d ≡ true → (present h (unit_in h s i) ≡ false) ↔ (disk_at h (unit_in h s i) ≡ d)
    lost_exactly d i e = (
      λ a. eqb-true _ d (not-false _ (sym (present_is h d e (unit_in h s i)) ∙ a)),
      λ a. present_is h d e (unit_in h s i) ∙ ap not (eq-eqb _ d a),
    )
