-- `parity::stripe::Stripes::reparity` meets its contract, by blocks and unit after unit. Assumes nothing.
use mathlib.Core.Path.{◌≡◌, sym, ◌∙◌}
use Prim.Native.Nat.{ℕ, ◌*◌, ◌/◌}
use native.Mathlib.Omega.{arith}
use Rattle.parity.specs.Stripe.{unit_size}
use Rattle.parity.proofs.Ready.{reckoned}
use Rattle.parity.proofs.Places.{Found, taken_room, taken_size, taken-placed, taken-mixed, taken-resealed}
use Rattle.parity.proofs.ByBlocks.{whole_blocks}
use Rattle.parity.proofs.stripe.Stripes.reparity.Goals as goal
use Rattle.parity.proofs.stripe.Stripes.reparity.Goals.{After-numbers-numbers, Then-serve}

found : (c : After-numbers-numbers) → Found c.args.self.now.checked.shelf.now c.args.s c.numbers-numbers.result
found c =
    record { ok = c.args.self.now.checked.passed; stripe = c.requires.stripe; count = c.numbers-numbers.ensures.count; listed = c.numbers-numbers.ensures.listed }

pub slice_bounds-numbers-end : goal.slice_bounds-numbers-end
slice_bounds-numbers-end c = taken_room (found c)

pub slice_bounds-numbers-end-2 : goal.slice_bounds-numbers-end-2
slice_bounds-numbers-end-2 c = sym (taken_size (found (goal.at.slice_bounds-numbers-end-2 c).After-numbers-numbers))

whole : (c : Then-serve) → let size : ℕ = c.args.self.now.size in size / 128 * 128 ≡ unit_size c.args.self.now.checked.shelf.now
whole c = whole_blocks _ _ c.serve.ensures c.if-serve.true ∙ c.args.self.now.sized

pub reparity-requires : goal.reparity-requires
reparity-requires c =
    let F = found (goal.at.reparity-requires c).After-numbers-numbers in
    let size = whole (goal.at.reparity-requires c).Then-serve in
    record {
      bounds = (omega (arith, taken_size F, c.requires.index), c.requires.exact ∙ sym size);
      within = rw size (taken-placed F c.args.image.now c.requires.size).within;
    }

pub reparity-requires-else-serve : goal.reparity-requires-else-serve
reparity-requires-else-serve c =
    let F = found (goal.at.reparity-requires-else-serve c).After-numbers-numbers in
    record {
      bounds = omega (arith, taken_size F, (reckoned _ F.ok _ F.stripe).two);
      placed = rw c.requires.exact (taken-placed F c.args.image.now c.requires.size);
    }

pub returns-then-serve : goal.returns-then-serve
returns-then-serve c =
    taken-resealed (found (goal.at.returns-then-serve c).After-numbers-numbers) c.args.image.now c.args.j c.args.unit.now c.requires.index c.requires.size c.requires.exact
    (rw (whole (goal.at.returns-then-serve c).Then-serve) at c.reparity.ensures)

pub returns-else-serve : goal.returns-else-serve
returns-else-serve c =
    taken-mixed (found (goal.at.returns-else-serve c).After-numbers-numbers) c.args.image.now c.args.j c.args.unit.now c.requires.index
    (rw c.requires.exact at c.reparity-else-serve.ensures)
