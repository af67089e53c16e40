-- `parity::blocks::gather` meets its contract. The loop's invariant: the blocks of unit n before block q are those of the exclusive-or.
-- Assumes nothing.
use mathlib.Core.Path.{◌≡◌, sym, ap, ◌∙◌}
use Prim.Native.Nat.{ℕ}
use native.Mathlib.Omega.{arith}
use lib.ListN.{length}
use Rattle.parity.specs.inner.Blocks.{numbered, blocks_at, Within}
use Rattle.parity.proofs.Rest.{rest_size}
use Rattle.parity.proofs.ByBlocks.{block_rest, block_within, filled_none, filled_fits, filled_next, filled-all}
use Rattle.parity.proofs.blocks.gather.Goals as goal
use Rattle.parity.proofs.blocks.gather.Goals.{After-rest-block, In-loop-q, Start}

abbrev number : Start → ℕ → ℕ
number start = numbered start.args.numbers.now

pub overflow_mul-at : goal.overflow_mul-at
overflow_mul-at c = omega (arith, c.requires.room)

pub loop-q-init : goal.loop-q-init
loop-q-init c = filled_none _ _ _ _ _ (rest_size _ _ (number (goal.at.loop-q-init c).Start) _ c.requires.within c.args.i) c.requires.room

within : (turn : In-loop-q) → Within 128 (blocks_at (number (goal.at.In-loop-q turn).Start) turn.args.per turn.loop-q.q) (length turn.args.numbers.now) (length turn.args.row.now)
within turn = block_within 128 _ _ turn.loop-q-test.true (number (goal.at.In-loop-q turn).Start) _ _ turn.requires.within

pub rest-block-requires : goal.rest-block-requires
rest-block-requires c = within c

pub overflow_add-at : goal.overflow_add-at
overflow_add-at c = omega (arith, filled_fits c.loop-q.invariant c.loop-q-test.true)

sized : (c : After-rest-block) → length c.rest-block.result ≡ 128
sized c = ap length c.rest-block.ensures ∙ rest_size 128 _ _ _ (within (goal.at.After-rest-block c).In-loop-q) _

pub slice_bounds-store-end : goal.slice_bounds-store-end
slice_bounds-store-end c = sym (sized (goal.at.slice_bounds-store-end c).After-rest-block)

pub store-requires : goal.store-requires
store-requires c =
    rw (sized (goal.at.store-requires c).After-rest-block) (omega (arith, filled_fits c.loop-q.invariant c.loop-q-test.true))

pub loop-q-preserved : goal.loop-q-preserved
loop-q-preserved c =
    filled_next c.loop-q.invariant c.loop-q-test.true (rw (sized (goal.at.loop-q-preserved c).After-rest-block) at c.store.ensures)
    (block_rest 128 _ _ c.loop-q-test.true c.args.row.now (number (goal.at.loop-q-preserved c).Start) c.args.i _ c.requires.within c.rest-block.ensures)

pub shape_of-to : goal.shape_of-to
shape_of-to c = c.loop-q.invariant.begun.same

pub returns : goal.returns
returns c = filled-all c.loop-q.invariant c.loop-q-test.false
