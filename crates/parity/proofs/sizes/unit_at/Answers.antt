-- `parity::sizes::unit_at` meets its contract: the unit is one of the image, so its number fits. Assumes nothing.
use Prim.Native.Nat.{◌+◌, ◌*◌, ◌^◌, ◌<◌}
use native.Mathlib.Omega.{arith}
use lib.Arith.{digits_lt}
use Rattle.parity.proofs.Sized.{units_most}
use Rattle.parity.proofs.sizes.unit_at.Goals as goal
use Rattle.parity.proofs.sizes.unit_at.Goals.{After-offsets}

small : (c : After-offsets) → c.args.disk * c.offsets.result + c.args.offset < 2 ^ 34
small c =
    rw c.offsets.ensures (omega (arith, digits_lt c.requires.0 c.requires.1, units_most _ c.args.checked.passed))

pub overflow_mul-result : goal.overflow_mul-result
overflow_mul-result c = omega (arith, small c)

pub overflow_add-result : goal.overflow_add-result
overflow_add-result c = omega (arith, small c)

pub returns : goal.returns
returns c = rw c.offsets.ensures
