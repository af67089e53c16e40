-- The numbers that a stripe's line is reckoned from are small. Assumes nothing.
use mathlib.Core.Path.{◌≡◌}
use mathlib.Core.Bool.{true}
use Prim.Native.Nat.{ℕ, ◌+◌, ◌*◌, ◌/◌, ◌%◌, ◌≤◌, ◌<◌}
use native.Mathlib.Nat.{mul-le-mul, mul-le-mul_right, le-mul_of_pos_right, mod-lt, div-le_self, div-lt_iff_lt-mul}
use native.Mathlib.Omega.{arith}
use Rattle.design.specs.declared.Shelf.{Shelf}
use Rattle.design.specs.Shelf.{is_shelf}
use Rattle.design.proofs.ShelfTests.{shelf_parts}
use Rattle.placement.specs.declared.unchecked.Split.{Split}
use Rattle.placement.specs.Layout.{layout_in, stripes, split_of}
use Rattle.placement.proofs.Bounds.{bounds, often_most}

pub record Small (k r : ℕ) (at : Split) : Type 0 where
  pub row : at.tuple * k + k ≤ 2048
  pub parity : at.parity < k
  pub tables : at.full_table * r * k ≤ 134217728 * 2048
  pub copies : at.copy * r ≤ 2048

module _ (h : Shelf) (ok : is_shelf h ≡ true) (s : ℕ) (below : s < stripes (layout_in h)) where
  pub small : {at : Split} → at ≡ split_of h.k h.b s → Small h.k h.r at
  unfolding split_of
  small is =
      let w = (shelf_parts h ok).limits in
      let k_least : 2 ≤ h.k = w.k_least in
      let b_least : 1 ≤ h.b = w.b_least in
      let places : h.b * h.k ≤ 2048 = w.places in
      let r_most : h.r ≤ h.b = often_most h ok in
      let some : h.b ≤ h.b * h.k = le-mul_of_pos_right h.b (omega arith) in
      let u : ℕ = s % (h.b * h.k) in
      let hu : u < h.b * h.k = mod-lt s (omega arith) in
      let tuple : u % h.b < h.b = mod-lt u (omega arith) in
      let copy : u / h.b < h.k = (div-lt_iff_lt-mul {k = h.b} {x = u} {y = h.k} (omega arith)).1 (omega arith) in
      let each : h.r * h.k ≤ h.b * h.k = mul-le-mul_right h.k r_most in
      let table : s / (h.b * h.k) ≤ 134217728 = omega (arith, div-le_self s (h.b * h.k), (bounds h ok).stripes) in
      let all : s / (h.b * h.k) * (h.r * h.k) ≤ 134217728 * 2048 = mul-le-mul {m₂ = 2048} table (omega arith) in
      let copied : u / h.b * h.r ≤ h.k * h.r = mul-le-mul_right h.r (omega arith) in
      rw is
      (record {
        row = omega (arith, mul-le-mul_right h.k tuple, places);
        parity = omega (arith, k_least);
        tables = omega (arith, all);
        copies = omega (arith, copied, places);
      })
