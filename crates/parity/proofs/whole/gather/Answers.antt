-- `parity::whole::gather` meets its contract. The loop's invariant: the lent unit is the exclusive-or of the units before unit j but
-- unit i. Assumes nothing.
use mathlib.Core.Path.{◌∙◌}
use native.Mathlib.Omega.{arith}
use Rattle.parity.proofs.Rest.{gathered_none, gathered_next, gathered_over, gathered_all}
use Rattle.parity.proofs.whole.gather.Goals as goal
use Rattle.parity.proofs.whole.gather.Goals.{then-j-i, else-j-i}

pub loop-j-init : goal.loop-j-init
loop-j-init c = (omega arith, gathered_none (c.fill.ensures.after (λ y e. e)))

pub mix_out-requires : goal.mix_out-requires
mix_out-requires c = rw c.loop-j.invariant.1.size (c.requires.within _ c.loop-j-test.true)

pub loop-j-preserved : goal.loop-j-preserved
loop-j-preserved c =
    let sum = c.loop-j.invariant.1 in (
      omega arith,
      elim c.if-j-i.branch [
        | then-j-i w ↦ gathered_next sum (c.requires.within _ c.loop-j-test.true) w.if-j-i.true (w.unit-is ∙ w.mix_out.ensures)
        | else-j-i w ↦ rw w.unit-is (gathered_over sum w.if-j-i.false)
      ],
    )

pub shape_of-unit : goal.shape_of-unit
shape_of-unit c = c.loop-j.invariant.1.size

pub returns : goal.returns
returns c = gathered_all c.loop-j.invariant.1 c.loop-j.invariant.0 c.loop-j-test.false
