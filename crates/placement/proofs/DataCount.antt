-- How many data units a stripe has: all but the parity. Assumes nothing.
use mathlib.Core.Path.{◌≡◌}
use Prim.Native.Nat.{◌+◌, ◌<◌}
use native.Mathlib.Omega.{arith}
use Rattle.placement.specs.Layout.{Layout, data_count}
use Rattle.placement.proofs.Even.{Even}

module _ (L : Layout) (E : Even L) where
  pub data_and-parity : data_count L + 1 ≡ L.design.k
  data_and-parity = omega (arith, E.k_least)

  pub data_pos : 0 < data_count L
  data_pos = omega (arith, data_and-parity, E.k_least)
