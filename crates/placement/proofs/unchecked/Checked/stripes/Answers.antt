-- `placement::unchecked::Checked::stripes` meets its contract: the stripes are below 2 ^ 27. Assumes nothing.
use native.Mathlib.Omega.{arith}
use Rattle.placement.proofs.Bounds.{bounds}
use Rattle.placement.proofs.unchecked.Checked.stripes.Goals as goal

pub overflow_mul-result : goal.overflow_mul-result
overflow_mul-result c = omega (arith, bounds _ c.args.self.passed)

pub overflow_mul-result-2 : goal.overflow_mul-result-2
overflow_mul-result-2 c = omega (arith, bounds _ c.args.self.passed)
