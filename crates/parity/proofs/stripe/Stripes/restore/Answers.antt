-- `parity::stripe::Stripes::restore` meets its contract, by blocks and unit after unit. Assumes nothing.
use mathlib.Core.Path.{◌≡◌, sym, ◌∙◌}
use Prim.Native.Nat.{ℕ, ◌*◌, ◌/◌}
use native.Mathlib.Omega.{arith}
use Rattle.parity.specs.Stripe.{unit_size}
use Rattle.parity.proofs.Ready.{reckoned}
use Rattle.parity.proofs.Places.{Found, taken_room, taken_size, taken-placed, taken-restored}
use Rattle.parity.proofs.ByBlocks.{whole_blocks}
use Rattle.parity.proofs.stripe.Stripes.restore.Goals as goal
use Rattle.parity.proofs.stripe.Stripes.restore.Goals.{After-numbers-numbers, Then-serve}

found : (c : After-numbers-numbers) → Found c.args.self.now.checked.shelf.now c.args.s c.numbers-numbers.result
found c =
    record { ok = c.args.self.now.checked.passed; stripe = c.requires.unit.0; count = c.numbers-numbers.ensures.count; listed = c.numbers-numbers.ensures.listed }

pub slice_bounds-numbers-end : goal.slice_bounds-numbers-end
slice_bounds-numbers-end c = taken_room (found c)

pub slice_bounds-numbers-end-2 : goal.slice_bounds-numbers-end-2
slice_bounds-numbers-end-2 c = sym (taken_size (found (goal.at.slice_bounds-numbers-end-2 c).After-numbers-numbers))

whole : (c : Then-serve) → let size : ℕ = c.args.self.now.size in size / 128 * 128 ≡ unit_size c.args.self.now.checked.shelf.now
whole c = whole_blocks _ _ c.serve.ensures c.if-serve.true ∙ c.args.self.now.sized

pub restore-requires : goal.restore-requires
restore-requires c =
    let F = found (goal.at.restore-requires c).After-numbers-numbers in
    record {
      i_bound = omega (arith, taken_size F, c.requires.unit.1);
      within = rw (whole (goal.at.restore-requires c).Then-serve) (taken-placed F c.args.image.now c.requires.size).within;
    }

pub restore-requires-else-serve : goal.restore-requires-else-serve
restore-requires-else-serve c =
    let F = found (goal.at.restore-requires-else-serve c).After-numbers-numbers in
    record {
      bounds = (omega (arith, taken_size F, (reckoned _ F.ok _ F.stripe).two), omega (arith, taken_size F, c.requires.unit.1));
      placed = rw c.args.self.now.sized (taken-placed F c.args.image.now c.requires.size);
    }

pub returns-then-serve : goal.returns-then-serve
returns-then-serve c =
    taken-restored (found (goal.at.returns-then-serve c).After-numbers-numbers) c.args.image.now c.args.i c.requires.unit.1
    (rw (whole (goal.at.returns-then-serve c).Then-serve) at c.restore.ensures)

pub returns-else-serve : goal.returns-else-serve
returns-else-serve c =
    taken-restored (found (goal.at.returns-else-serve c).After-numbers-numbers) c.args.image.now c.args.i c.requires.unit.1
    (rw c.args.self.now.sized at c.restore-else-serve.ensures)
