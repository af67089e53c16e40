-- `parity::stripe::Stripes::seal` meets its contract, by blocks and unit after unit. Assumes nothing.
use mathlib.Core.Path.{◌≡◌, sym, ◌∙◌}
use Prim.Native.Nat.{ℕ, ◌-◌, ◌*◌, ◌/◌}
use native.Mathlib.Nat.{mul-div_cancel}
use native.Mathlib.Omega.{arith}
use lib.ListN.{length}
use lib.Pow.{pow_pos}
use Rattle.design.proofs.ShelfTests.{shelf_parts}
use Rattle.parity.specs.Stripe.{unit_size}
use Rattle.parity.proofs.ByBlocks.{whole_blocks}
use Rattle.parity.proofs.stripe.Stripes.seal.Goals as goal
use Rattle.parity.proofs.stripe.Stripes.seal.Goals.{Then-serve}

whole : (c : Then-serve) → let size : ℕ = c.args.self.now.size in size / 128 * 128 ≡ unit_size c.args.self.now.checked.shelf.now
whole c = whole_blocks _ _ c.serve.ensures c.if-serve.true ∙ c.args.self.now.sized

pub overflow_sub-k : goal.overflow_sub-k
overflow_sub-k c = omega (arith, (shelf_parts _ c.args.self.now.checked.passed).limits.k_least)

pub seal-requires : goal.seal-requires
seal-requires c =
    rw (whole (goal.at.seal-requires c).Then-serve) (omega (arith, (shelf_parts _ c.args.self.now.checked.passed).limits.k_most), c.requires.unit, sym c.requires.buffer)

pub returns-then-serve : goal.returns-then-serve
returns-then-serve c = rw (whole (goal.at.returns-then-serve c).Then-serve) at c.seal.ensures

pub seal-requires-else-serve : goal.seal-requires-else-serve
seal-requires-else-serve c =
    let self = c.args.self.now in
    rw self.sized (pow_pos self.checked.shelf.now.u, c.requires.unit)

pub returns-else-serve : goal.returns-else-serve
returns-else-serve c =
    let self = c.args.self.now in
    let units : length c.args.buffer.now / unit_size self.checked.shelf.now ≡ self.checked.shelf.now.k - 1 = rw c.requires.buffer (mul-div_cancel (self.checked.shelf.now.k - 1) (pow_pos self.checked.shelf.now.u)) in
    rw units at (rw self.sized at c.seal-else-serve.ensures)
