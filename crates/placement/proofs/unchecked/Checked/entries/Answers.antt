-- `placement::unchecked::Checked::entries` meets its contract. Assumes nothing.
use native.Mathlib.Omega.{arith}
use Rattle.design.proofs.ShelfTests.{shelf_parts}
use Rattle.placement.proofs.unchecked.Checked.entries.Goals as goal

pub overflow_mul-self : goal.overflow_mul-self
overflow_mul-self c = omega (arith, (shelf_parts _ c.args.self.passed).limits.places)

pub entries-requires : goal.entries-requires
entries-requires c = (shelf_parts _ c.args.self.passed).limits.places
