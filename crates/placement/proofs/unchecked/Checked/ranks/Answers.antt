-- `placement::unchecked::Checked::ranks` meets its contract: each entry of a tuple is a disk below v. Assumes nothing.
use native.Mathlib.Omega.{arith}
use Rattle.design.proofs.ShelfTests.{shelf_parts}
use Rattle.placement.proofs.unchecked.Checked.ranks.Goals as goal

pub overflow_mul-self : goal.overflow_mul-self
overflow_mul-self c = omega (arith, (shelf_parts _ c.args.self.passed).limits.places)

pub ranks-requires : goal.ranks-requires
ranks-requires c =
    let w = shelf_parts _ c.args.self.passed in
    record { n_bound = omega (arith, w.limits.places); by_index = λ i l. omega (arith, w.below i (omega arith), w.limits.v_most) }
