-- `parity::sizes::image_size` meets its contract: the image has at most 2 ^ 45 bytes. Assumes nothing.
use native.Mathlib.Omega.{arith}
use Rattle.parity.proofs.Sized.{units_most, image_size_most}
use Rattle.parity.proofs.sizes.image_size.Goals as goal

pub returns : goal.returns
returns c = rw (c.offsets.ensures, c.unit_size.ensures)

pub overflow_mul-result : goal.overflow_mul-result
overflow_mul-result c = rw c.offsets.ensures (omega (arith, units_most _ c.args.checked.passed))

pub overflow_mul-result-2 : goal.overflow_mul-result-2
overflow_mul-result-2 c = rw (c.offsets.ensures, c.unit_size.ensures) (omega (arith, image_size_most _ c.args.checked.passed))
