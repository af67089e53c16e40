-- `parity::blocks::rest` meets its contract. The loop's invariant: the block is the exclusive-or of the blocks before that of unit j
-- but that of unit i. Assumes nothing.
use mathlib.Core.Path.{refl, sym, ◌∙◌}
use native.Mathlib.Omega.{arith}
use Rattle.parity.proofs.Rest.{gathered_none, gathered_next, gathered_over, gathered_all}
use Rattle.parity.proofs.blocks.rest.Goals as goal
use Rattle.parity.proofs.blocks.rest.Goals.{then-j-i, else-j-i}

pub loop-j-init : goal.loop-j-init
loop-j-init c = (omega arith, gathered_none refl)

pub slice_bounds-mix_out-end : goal.slice_bounds-mix_out-end
slice_bounds-mix_out-end c = sym c.loop-j.invariant.1.size

pub overflow_mul-n : goal.overflow_mul-n
overflow_mul-n c = omega (arith, c.requires _ c.loop-j-test.true)

pub overflow_add-n : goal.overflow_add-n
overflow_add-n c = omega (arith, c.requires _ c.loop-j-test.true)

pub mix_out-requires : goal.mix_out-requires
mix_out-requires c = rw c.loop-j.invariant.1.size (c.requires _ c.loop-j-test.true)

pub loop-j-preserved : goal.loop-j-preserved
loop-j-preserved c =
    let sum = c.loop-j.invariant.1 in (
      omega arith,
      elim c.if-j-i.branch [
        | then-j-i w ↦ gathered_next sum (c.requires _ c.loop-j-test.true) w.if-j-i.true (w.block-is ∙ w.mix_out.ensures)
        | else-j-i w ↦ rw w.block-is (gathered_over sum w.if-j-i.false)
      ],
    )

pub returns : goal.returns
returns c = gathered_all c.loop-j.invariant.1 c.loop-j.invariant.0 c.loop-j-test.false
