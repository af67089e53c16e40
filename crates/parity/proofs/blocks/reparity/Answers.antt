-- `parity::blocks::reparity` meets its contract. The loop's invariant: the blocks of the last unit before block q are those of the
-- exclusive-or of the others but unit i and of the lent unit. Assumes nothing.
use mathlib.Core.Path.{◌≡◌, sym, ap, ◌∙◌}
use Prim.Native.Nat.{ℕ, ◌+◌, ◌-◌, ◌*◌, ◌≤◌}
use native.Mathlib.Omega.{arith}
use lib.ListN.{length}
use Rattle.parity.specs.Units.{unit_at, xor_u}
use Rattle.parity.specs.inner.Blocks.{rest_of, numbered, blocks_at, Within}
use Rattle.parity.proofs.Xor.{xor_u-length}
use Rattle.parity.proofs.Rest.{rest_size, front_within, front_rest}
use Rattle.parity.proofs.ByBlocks.{block_room, block_mixed, filled_none, filled_fits, filled_within, filled-rest, filled_next, filled-all}
use Rattle.parity.proofs.blocks.reparity.Goals as goal
use Rattle.parity.proofs.blocks.reparity.Goals.{After-mix_out, After-rest-block, In-loop-q, Start}

abbrev number : Start → ℕ → ℕ
number start = numbered start.args.numbers.now

abbrev last : Start → ℕ
last start = length start.args.numbers.now - 1

-- the last unit lies within the image, and so do those before it
inside : (start : Start) → number start (last start) * (start.args.per * 128) + start.args.per * 128 ≤ length start.args.image.now
inside start = start.requires.within (last start) (omega arith)

fits : (start : Start) → Within (start.args.per * 128) (number start) (last start) (length start.args.image.now)
fits start j l = start.requires.within j (omega arith)

pub overflow_mul-at : goal.overflow_mul-at
overflow_mul-at c = omega (arith, inside (goal.at.overflow_mul-at c).Start)

pub loop-q-init : goal.loop-q-init
loop-q-init c =
    filled_none _ _ _ _ _ (xor_u-length _ _ _ (rest_size _ _ (number (goal.at.loop-q-init c).Start) _ (fits (goal.at.loop-q-init c).Start) c.args.i) c.requires.bounds.1) (inside (goal.at.loop-q-init c).Start)

within : (turn : In-loop-q) → Within 128 (blocks_at (number (goal.at.In-loop-q turn).Start) turn.args.per turn.loop-q.q) (last (goal.at.In-loop-q turn).Start) (length turn.loop-q.image)
within turn = filled_within turn.loop-q.invariant (number (goal.at.In-loop-q turn).Start) _ (fits (goal.at.In-loop-q turn).Start) turn.loop-q-test.true

pub rest-block-requires : goal.rest-block-requires
rest-block-requires c = front_within 128 c.args.numbers.now _ (omega arith) c.args.per c.loop-q.q _ (within (goal.at.rest-block-requires c).In-loop-q)

-- the block of the data but unit i
gathered : (c : After-rest-block) → c.rest-block.result ≡ rest_of 128 c.loop-q.image (blocks_at (number (goal.at.After-rest-block c).Start) c.args.per c.loop-q.q) c.args.i (last (goal.at.After-rest-block c).Start)
gathered c = c.rest-block.ensures ∙ front_rest 128 c.args.numbers.now _ (omega arith) c.args.per c.loop-q.q c.loop-q.image c.args.i

sized : (c : After-rest-block) → length c.rest-block.result ≡ 128
sized c = ap length (gathered c) ∙ rest_size 128 _ _ _ (within (goal.at.After-rest-block c).In-loop-q) _

pub slice_bounds-mix_out-end : goal.slice_bounds-mix_out-end
slice_bounds-mix_out-end c = sym (sized (goal.at.slice_bounds-mix_out-end c).After-rest-block)

pub mix_out-requires : goal.mix_out-requires
mix_out-requires c =
    rw (sized (goal.at.mix_out-requires c).After-rest-block, c.requires.bounds.1) (omega (arith, block_room 128 _ _ c.loop-q-test.true))

-- the lent unit's block is mixed in
mixed : (c : After-mix_out) → let a = c.args in
    c.mix_out.new.unit ≡ unit_at 128 (xor_u (rest_of (a.per * 128) a.image.now (number (goal.at.After-mix_out c).Start) a.i (last (goal.at.After-mix_out c).Start)) a.unit.now) c.loop-q.q
mixed c =
    block_mixed 128 _ _ c.loop-q-test.true _ _ (sized (goal.at.After-mix_out c).After-rest-block) (filled-rest c.loop-q.invariant (number (goal.at.After-mix_out c).Start) _ (fits (goal.at.After-mix_out c).Start) c.loop-q-test.true c.args.i (gathered (goal.at.After-mix_out c).After-rest-block)) c.mix_out.ensures

mixed_size : (c : After-mix_out) → length c.mix_out.new.unit ≡ 128
mixed_size c = c.mix_out.auto.unit ∙ sized (goal.at.After-mix_out c).After-rest-block

pub overflow_add-at : goal.overflow_add-at
overflow_add-at c = omega (arith, filled_fits c.loop-q.invariant c.loop-q-test.true)

pub slice_bounds-store-end : goal.slice_bounds-store-end
slice_bounds-store-end c = sym (mixed_size (goal.at.slice_bounds-store-end c).After-mix_out)

pub store-requires : goal.store-requires
store-requires c =
    rw (mixed_size (goal.at.store-requires c).After-mix_out) (omega (arith, filled_fits c.loop-q.invariant c.loop-q-test.true))

pub loop-q-preserved : goal.loop-q-preserved
loop-q-preserved c =
    filled_next c.loop-q.invariant c.loop-q-test.true (rw (mixed_size (goal.at.loop-q-preserved c).After-mix_out) at c.store.ensures) (mixed (goal.at.loop-q-preserved c).After-mix_out)

pub shape_of-image : goal.shape_of-image
shape_of-image c = c.loop-q.invariant.begun.same

pub returns : goal.returns
returns c = filled-all c.loop-q.invariant c.loop-q-test.false
