-- The split of a stripe, and the place that a split and a position give. Assumes nothing.
use mathlib.Core.Path.{◌≡◌, ap, ◌∙◌}
use mathlib.Core.Bool.{true}
use Prim.Native.Nat.{ℕ, ◌+◌, ◌*◌, ◌^◌, ◌≤◌, ◌<◌}
use native.Mathlib.Nat.{mul-pos, div-lt_iff_lt-mul}
use native.Mathlib.Omega.{arith}
use lib.Arith.{digits_lt}
use Rattle.design.specs.declared.Shelf.{Shelf}
use Rattle.design.specs.Shelf.{is_shelf}
use Rattle.design.proofs.ShelfTests.{shelf_parts}
use Rattle.placement.specs.declared.unchecked.Split.{Split}
use Rattle.placement.specs.declared.unchecked.Place.{Place}
use Rattle.placement.specs.Layout.{Layout, layout_in, stripes, offsets, split_of, stripe_split, parity_of, SplitIn, offset_of, place_in, place_of}
use Rattle.placement.proofs.Even.{Even, even_shelf}
use Rattle.placement.proofs.Row.{tuple-lt, copy_lt, rank_lt}
use Rattle.placement.proofs.Bounds.{bounds}

pub split-parity : (L : Layout) (s : ℕ) {at : Split} → at ≡ stripe_split L s → at.parity ≡ parity_of L s
split-parity L s q = ap (λ (x : Split). x.parity) q

pub split_place : (L : Layout) (s p : ℕ) {at : Split} {x : Place} → at ≡ stripe_split L s → x ≡ place_in L at p → x ≡ place_of L s p
unfolding place_in place_of offset_of
split_place L s p q r = r ∙ ap (λ (at : Split). place_in L at p) q

module _ (L : Layout) (E : Even L) where
  pub split_in : (s : ℕ) → s < stripes L → SplitIn L (stripe_split L s)
  unfolding split_of
  split_in s l =
      let some : 0 < L.design.b * L.design.k = mul-pos E.b_pos (omega (arith, E.k_least)) in
      record { full_table-lt = (div-lt_iff_lt-mul some).1 (omega arith); copy = copy_lt L E s; tuple = tuple-lt L E s }

  offset_below : (at : Split) (p : ℕ) → SplitIn L at → p < L.design.k → (place_in L at p).offset < offsets L
  unfolding place_in
  offset_below at p w hp = omega (arith, digits_lt (digits_lt w.full_table-lt w.copy) (rank_lt L E at.tuple p w.tuple hp))

-- ---- of a shelf

module _ (h : Shelf) (e : is_shelf h ≡ true) where
  -- what splitting asks
  pub split_asks : (1 ≤ h.k) × (1 ≤ h.b) × (h.b * h.k < 2 ^ 64)
  split_asks = let l = (shelf_parts h e).limits in (omega (arith, l.k_least), l.b_least, omega (arith, l.places))

  pub split_of_in : {s : ℕ} {at : Split} → s < stripes (layout_in h) → at ≡ stripe_split (layout_in h) s → SplitIn (layout_in h) at
  split_of_in {s} l q = rw q (split_in (layout_in h) (even_shelf h e) s l)

module _ (h : Shelf) (e : is_shelf h ≡ true) (at : Split) (w : SplitIn (layout_in h) at) (p : ℕ) (hp : p < h.k) where
  pub entry_fits : at.tuple * h.k + p < 2048
  entry_fits = omega (arith, digits_lt w.tuple hp, (shelf_parts h e).limits.places)

  pub offset_fits : (place_in (layout_in h) at p).offset < 2 ^ 27
  offset_fits = omega (arith, offset_below (layout_in h) (even_shelf h e) at p w hp, (bounds h e).offsets)
