-- `parity::sizes::unit_size` meets its contract: one bit, u places up, is within a word. Assumes nothing.
use native.Mathlib.Omega.{arith}
use Rattle.design.proofs.ShelfTests.{shelf_parts}
use Rattle.parity.proofs.Sized.{unit_size_most}
use Rattle.parity.proofs.sizes.unit_size.Goals as goal

pub overflow_shl-result : goal.overflow_shl-result
overflow_shl-result c = omega (arith, (shelf_parts _ c.args.checked.passed).limits.u_most)

pub returns : goal.returns
returns c = omega (arith, unit_size_most _ c.args.checked.passed)
