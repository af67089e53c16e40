-- The place of an address is that of its unit in the image, and so is the place of its stripe's parity. Assumes nothing.
use mathlib.Core.Path.{◌≡◌, sym, ap}
use mathlib.Core.Bool.{true}
use Prim.Native.Nat.{ℕ, ◌+◌, ◌-◌, ◌*◌, ◌<◌}
use native.Mathlib.Omega.{arith}
use Rattle.design.specs.declared.Shelf.{Shelf}
use Rattle.design.specs.Shelf.{is_shelf}
use Rattle.placement.specs.Slots.{position_of}
use Rattle.placement.specs.Layout.{layout_in, stripes, addresses, stripe_of, j_of, parity_of, disk_of, offset_of}
use Rattle.placement.specs.Placed.{spot_of}
use Rattle.placement.proofs.Even.{Even, even_shelf}
use Rattle.placement.proofs.Row.{disk-lt, offset_lt}
use Rattle.placement.proofs.Stands.{j-lt, stripe_below}
use Rattle.parity.specs.Stripe.{depth, position_in, unit_in}
use Rattle.parity.proofs.Index.{position_in_lt, position_data, position-parity}

module _ (h : Shelf) (ok : is_shelf h ≡ true) (a : ℕ) (below : a < addresses (layout_in h)) where
  abbrev s : ℕ
  s = stripe_of (layout_in h) a

  abbrev j : ℕ
  j = j_of (layout_in h) a

  E : Even (layout_in h)
  E = even_shelf h ok

  hs : s < stripes (layout_in h)
  hs = (stripe_below (layout_in h) E a).1 below

  hj : j < h.k
  hj = omega (arith, j-lt (layout_in h) E a)

  here : position_in h s j ≡ position_of (parity_of (layout_in h) s) j
  here = position_data h s j (j-lt (layout_in h) E a)

  parity-lt : h.k - 1 < h.k
  parity-lt = omega (arith, hj)

  position_place : (p : ℕ) → p < h.k → (disk_of (layout_in h) s p < h.v) × (offset_of (layout_in h) s p < depth h)
  position_place p hp = (disk-lt (layout_in h) E s p hp, offset_lt (layout_in h) E s p hs hp)

  -- ---- its number in the image, and the parity's

  pub spot-unit : (spot_of (layout_in h) a).disk * depth h + (spot_of (layout_in h) a).offset ≡ unit_in h (stripe_of (layout_in h) a) (j_of (layout_in h) a)
  unfolding spot_of unit_in
  spot-unit = ap (λ (p : ℕ). disk_of (layout_in h) s p * depth h + offset_of (layout_in h) s p) (sym here)

  pub spot-parity : (spot_of (layout_in h) a).parity_disk * depth h + (spot_of (layout_in h) a).parity_offset ≡ unit_in h (stripe_of (layout_in h) a) (h.k - 1)
  unfolding spot_of unit_in
  spot-parity = ap (λ (p : ℕ). disk_of (layout_in h) s p * depth h + offset_of (layout_in h) s p) (sym (position-parity h s))

  -- ---- both places are of the shelf

  pub spot_place : ((spot_of (layout_in h) a).disk < h.v) × ((spot_of (layout_in h) a).offset < depth h)
  unfolding spot_of
  spot_place = rw (sym here) (position_place (position_in h s j) (position_in_lt h ok s j hj))

  pub parity_place : ((spot_of (layout_in h) a).parity_disk < h.v) × ((spot_of (layout_in h) a).parity_offset < depth h)
  unfolding spot_of
  parity_place = rw (sym (position-parity h s)) (position_place (position_in h s (h.k - 1)) (position_in_lt h ok s (h.k - 1) parity-lt))
