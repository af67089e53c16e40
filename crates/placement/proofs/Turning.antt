-- How the units of a stripe stand in their tuple, told by their places alone (document 01, "Where a unit stands"): the parity is
-- rightmost in the first copy of a full table and one position to the left in each next one, and the data stand in address order at
-- the other positions. Assumes nothing.
use mathlib.Core.Path.{◌≡◌, sym, ap, ◌∙◌}
use mathlib.Core.Bool.{not}
use Prim.Native.Nat.{ℕ, ◌+◌, ◌-◌, ◌*◌, ◌/◌, ◌%◌, ◌≤◌, ◌<◌}
use native.Mathlib.Nat.{mul_comm, mul-pos, add-div_right, div-div-eq-div-mul, div-add-mod', div-lt_iff_lt-mul, le-div_iff_mul-le}
use native.Mathlib.Omega.{arith}
use lib.Dec.{eqb}
use lib.Arith.{digits_mod}
use Rattle.design.specs.Count.{nth}
use Rattle.placement.specs.Slots.{position_of}
use Rattle.placement.specs.Layout.{Layout, data_count, stripe_of, j_of, parity_of, position_at}
use Rattle.placement.specs.Placed.{spot_of}
use Rattle.placement.proofs.Stepping.{position-order, position-nth}
use Rattle.placement.proofs.Even.{Even}
use Rattle.placement.proofs.DataCount.{data_pos}
use Rattle.placement.proofs.Row.{parity_row}
use Rattle.placement.proofs.Position.{parity-lt, position-lt}
use Rattle.placement.proofs.Undo.{position_back}
use Rattle.placement.proofs.Stands.{j-lt}

-- the positions at which the unit of address a and its stripe's parity stand
abbrev pub data_position : Layout → ℕ → ℕ
data_position L a = position_at L (spot_of L a).disk (spot_of L a).offset

abbrev pub parity_position : Layout → ℕ → ℕ
parity_position L a = position_at L (spot_of L a).parity_disk (spot_of L a).parity_offset

-- the addresses of one copy of the tuples, and of a full table, which has k
abbrev pub copy_size : Layout → ℕ
copy_size L = L.design.b * data_count L

abbrev pub table_size : Layout → ℕ
table_size L = L.design.k * copy_size L

module _ (L : Layout) (E : Even L) where
  -- ---- told by their places

  data_position_lem : (a : ℕ) → data_position L a ≡ position_of (parity_of L (stripe_of L a)) (j_of L a)
  unfolding spot_of
  data_position_lem a = position_back L E (stripe_of L a) _ (position-lt L E (stripe_of L a) (j_of L a) (j-lt L E a))

  parity-position : (a : ℕ) → parity_position L a ≡ parity_of L (stripe_of L a)
  unfolding spot_of
  parity-position a = position_back L E (stripe_of L a) _ (parity-lt L E (stripe_of L a))

  -- ---- the parity turns

  copy_pos : 0 < copy_size L
  copy_pos = mul-pos E.b_pos (data_pos L E)

  k_pos : 0 < L.design.k
  k_pos = omega (arith, E.k_least)

  -- by the copies before that of address a
  parity-by_row : (a : ℕ) → parity_position L a ≡ L.design.k - 1 - a / copy_size L % L.design.k
  parity-by_row a =
      parity-position a
      ∙ parity_row L E (stripe_of L a)
      ∙ ap (λ (x : ℕ). L.design.k - 1 - x % L.design.k)
      (div-div-eq-div-mul a (data_count L) L.design.b ∙ ap (λ (x : ℕ). a / x) (mul_comm (data_count L) L.design.b))

  parity_in_copy : (t a c : ℕ) → a / copy_size L ≡ t * L.design.k + c → c < L.design.k → parity_position L a + 1 + c ≡ L.design.k
  parity_in_copy t a c e l =
      let copy : a / copy_size L % L.design.k ≡ c = ap (λ (x : ℕ). x % L.design.k) e ∙ digits_mod t l in
      omega (arith, parity-by_row a)

  module _ (t a : ℕ) (from : t * table_size L ≤ a) where
    row_from : t * L.design.k ≤ a / copy_size L
    row_from = (le-div_iff_mul-le copy_pos).1 (omega arith)

    -- in copy 0 of full table t it is rightmost
    pub rightmost : a < t * table_size L + copy_size L → parity_position L a ≡ L.design.k - 1
    rightmost l =
        let below : a / copy_size L < t * L.design.k + 1 = (div-lt_iff_lt-mul copy_pos).1 (omega arith) in
        omega (arith, parity_in_copy t a 0 (omega (arith, row_from)) k_pos)

    -- in the next copy of the same full table it is one position to the left
    pub parity_left : a + copy_size L < (t + 1) * table_size L → parity_position L (a + copy_size L) + 1 ≡ parity_position L a
    parity_left l =
        let c : ℕ = a / copy_size L - t * L.design.k in
        let next : (a + copy_size L) / copy_size L ≡ a / copy_size L + 1 = add-div_right a copy_pos in
        let below : (a + copy_size L) / copy_size L < (t + 1) * L.design.k = (div-lt_iff_lt-mul copy_pos).1 (omega arith) in
        let few : c + 1 < L.design.k = omega (arith, row_from) in
        omega (arith, parity_in_copy t a c (omega (arith, row_from)) (omega arith), parity_in_copy t (a + copy_size L) (c + 1) (omega (arith, row_from)) few)

  -- ---- the data stand beside it

  pub data_in_order : (a a' : ℕ) → stripe_of L a ≡ stripe_of L a' → a < a' → data_position L a < data_position L a'
  data_in_order a a' es l =
      let n : ℕ = data_count L in
      let j : j_of L a < j_of L a' = omega (arith, div-add-mod' a n, div-add-mod' a' n, ap (λ (s : ℕ). s * n) es) in
      rw (data_position_lem a, data_position_lem a', es) (position-order (parity_of L (stripe_of L a')) (j_of L a) (j_of L a') j)

  -- data j is at the j-th of the positions other than the parity's
  pub data_beside_parity : (a : ℕ) → data_position L a ≡ nth (λ x. not (eqb x (parity_position L a))) L.design.k (j_of L a)
  data_beside_parity a =
      let p : ℕ = parity_of L (stripe_of L a) in
      data_position_lem a
      ∙ position-nth p (j_of L a) L.design.k (position-lt L E (stripe_of L a) (j_of L a) (j-lt L E a))
      ∙ ap (λ (x : ℕ). nth (λ y. not (eqb y x)) L.design.k (j_of L a)) (sym (parity-position a))
