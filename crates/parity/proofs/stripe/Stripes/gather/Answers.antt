-- `parity::stripe::Stripes::gather` meets its contract, by blocks and unit after unit. Assumes nothing.
use mathlib.Core.Path.{◌≡◌, sym, ◌∙◌}
use Prim.Native.Nat.{ℕ, ◌*◌, ◌/◌}
use native.Mathlib.Omega.{arith}
use Rattle.parity.specs.Stripe.{unit_size}
use Rattle.parity.proofs.Places.{Found, taken_room, taken_size, taken-placed, taken-gathered, taken-rest}
use Rattle.parity.proofs.ByBlocks.{whole_blocks}
use Rattle.parity.proofs.stripe.Stripes.gather.Goals as goal
use Rattle.parity.proofs.stripe.Stripes.gather.Goals.{After-numbers-numbers, Then-serve}

found : (c : After-numbers-numbers) → Found c.args.self.now.checked.shelf.now c.args.s c.numbers-numbers.result
found c =
    record { ok = c.args.self.now.checked.passed; stripe = c.requires.stripe; count = c.numbers-numbers.ensures.count; listed = c.numbers-numbers.ensures.listed }

pub slice_bounds-numbers-end : goal.slice_bounds-numbers-end
slice_bounds-numbers-end c = taken_room (found c)

pub slice_bounds-numbers-end-2 : goal.slice_bounds-numbers-end-2
slice_bounds-numbers-end-2 c = sym (taken_size (found (goal.at.slice_bounds-numbers-end-2 c).After-numbers-numbers))

whole : (c : Then-serve) → let size : ℕ = c.args.self.now.size in size / 128 * 128 ≡ unit_size c.args.self.now.checked.shelf.now
whole c = whole_blocks _ _ c.serve.ensures c.if-serve.true ∙ c.args.self.now.sized

pub gather-requires : goal.gather-requires
gather-requires c =
    let P = taken-placed (found (goal.at.gather-requires c).After-numbers-numbers) c.args.image.now c.requires.size in
    rw (whole (goal.at.gather-requires c).Then-serve) (record { room = omega (arith, c.requires.unit); within = P.within })

pub gather-requires-else-serve : goal.gather-requires-else-serve
gather-requires-else-serve c =
    let P = taken-placed (found (goal.at.gather-requires-else-serve c).After-numbers-numbers) c.args.image.now c.requires.size in
    rw c.requires.unit (record { within = P.within })

pub returns-then-serve : goal.returns-then-serve
returns-then-serve c =
    taken-gathered (found (goal.at.returns-then-serve c).After-numbers-numbers) c.args.image.now c.args.i c.requires.size c.args.unit.now c.requires.unit
    (rw (whole (goal.at.returns-then-serve c).Then-serve) at c.gather.ensures)

pub returns-else-serve : goal.returns-else-serve
returns-else-serve c =
    taken-rest (found (goal.at.returns-else-serve c).After-numbers-numbers) c.args.image.now c.args.i
    (rw c.requires.unit at c.gather-else-serve.ensures)
