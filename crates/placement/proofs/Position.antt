-- The positions of a stripe: the parity's is one of the k, and the data stand at the others, in order. Assumes nothing.
use mathlib.Core.Path.{◌≡◌, sym, ap, ◌∙◌}
use mathlib.Core.Logic.{◌≢◌}
use Prim.Native.Nat.{ℕ, ◌<◌}
use native.Mathlib.Omega.{arith}
use Rattle.placement.specs.Slots.{position_of, index_of}
use Rattle.placement.specs.Layout.{Layout, data_count, parity_of}
use Rattle.placement.proofs.Stepping.{position_below, index_of_position, position_of_index, index_below}
use Rattle.placement.proofs.Even.{Even}
use Rattle.placement.proofs.DataCount.{data_and-parity}
use Rattle.placement.proofs.Row.{copy_lt, parity_copy}

-- position x of stripe s is that of data j
pub record DataAt (L : Layout) (s x j : ℕ) : Type 0 where
  pub below : j < data_count L
  pub stands : position_of (parity_of L s) j ≡ x

module _ (L : Layout) (E : Even L) (s : ℕ) where
  pub parity-lt : parity_of L s < L.design.k
  parity-lt = omega (arith, E.k_least, copy_lt L E s, parity_copy L E s)

  pub position-lt : (j : ℕ) → j < data_count L → position_of (parity_of L s) j < L.design.k
  position-lt j h = omega (arith, data_and-parity L E, position_below (parity_of L s) j (data_count L) h)

  pub position_inj : (i j : ℕ) → position_of (parity_of L s) i ≡ position_of (parity_of L s) j → i ≡ j
  position_inj i j e = sym (index_of_position (parity_of L s) i) ∙ ap (index_of (parity_of L s)) e ∙ index_of_position (parity_of L s) j

  -- every position but the parity's is that of one data unit
  pub data_at : (x : ℕ) → x < L.design.k → x ≢ parity_of L s → DataAt L s x (index_of (parity_of L s) x)
  data_at x h ne = record {
    below = index_below (parity_of L s) x ne (data_count L) (omega (arith, parity-lt, data_and-parity L E)) (omega (arith, data_and-parity L E));
    stands = position_of_index (parity_of L s) x ne;
  }
