-- `host::showing::start` meets its contract: the place is a unit of the image, which has at most 2 ^ 45 bytes. Assumes nothing.
use mathlib.Core.Path.{ap₂}
use Prim.Native.Nat.{ℕ, ◌+◌, ◌*◌, ◌<◌, ◌≤◌}
use native.Mathlib.Nat.{mul-le-mul_right}
use native.Mathlib.Omega.{arith}
use lib.Arith.{digits_lt}
use Rattle.design.proofs.ShelfTests.{shelf_parts}
use Rattle.parity.specs.Stripe.{unit_size, units}
use Rattle.parity.proofs.Sized.{units_most, image_size_most}
use Rattle.host.proofs.Bits.{unit-bit}
use Rattle.host.proofs.showing.start.Goals as goal
use Rattle.host.proofs.showing.start.Goals.{After-offsets}

-- the place is a unit of the image
here : (c : After-offsets) → c.args.disk * c.offsets.result + c.args.offset < units c.args.checked.shelf.now
here c = rw c.offsets.ensures (digits_lt c.requires.0 c.requires.1)

pub overflow_mul-result : goal.overflow_mul-result
overflow_mul-result c = omega (arith, here c, units_most _ c.args.checked.passed)

pub overflow_add-result : goal.overflow_add-result
overflow_add-result c = omega (arith, here c, units_most _ c.args.checked.passed)

pub overflow_shl-result : goal.overflow_shl-result
overflow_shl-result c = omega (arith, (shelf_parts _ c.args.checked.passed).limits.u_most)

pub overflow_mul-result-2 : goal.overflow_mul-result-2
overflow_mul-result-2 c =
    let l : c.args.disk * c.offsets.result + c.args.offset ≤ units c.args.checked.shelf.now = omega (arith, here (goal.at.overflow_mul-result-2 c).After-offsets) in
    rw (unit-bit _ c.args.checked.passed) (omega (arith, mul-le-mul_right (unit_size c.args.checked.shelf.now) l, image_size_most _ c.args.checked.passed))

pub returns : goal.returns
returns c =
    ap₂ (λ (o U : ℕ). (c.args.disk * o + c.args.offset) * U) c.offsets.ensures (unit-bit _ c.args.checked.passed)
