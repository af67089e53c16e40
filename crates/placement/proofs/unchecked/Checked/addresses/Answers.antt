-- `placement::unchecked::Checked::addresses` meets its contract: the addresses are below 2 ^ 31. Assumes nothing.
use native.Mathlib.Omega.{arith}
use Rattle.placement.proofs.Even.{even_shelf}
use Rattle.placement.proofs.Bounds.{bounds}
use Rattle.placement.proofs.unchecked.Checked.addresses.Goals as goal

pub overflow_sub-result : goal.overflow_sub-result
overflow_sub-result c = omega (arith, (even_shelf _ c.args.self.passed).k_least)

pub overflow_mul-result : goal.overflow_mul-result
overflow_mul-result c = rw c.stripes.ensures (omega (arith, bounds _ c.args.self.passed))
