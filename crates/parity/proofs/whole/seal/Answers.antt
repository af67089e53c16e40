-- `parity::whole::seal` meets its contract. The loop's invariant: unit n is the exclusive-or of the units of the buffer so far.
-- Assumes nothing.
use mathlib.Core.Path.{◌≡◌, refl, ◌∙◌}
use native.Mathlib.Omega.{arith}
use lib.ListN.{length, length-append, length-replicate}
use Rattle.parity.specs.Units.{unit_at}
use Rattle.parity.proofs.Summing.{summed_none, summed_next, summed_all}
use Rattle.parity.proofs.Chunks.{left_all, next_is, left_next, left_none}
use Rattle.parity.proofs.whole.seal.Goals as goal

pub loop-unit-init : goal.loop-unit-init
loop-unit-init c =
    let start = c.into_iter-unit-iterator.ensures.into_iter_gives in
    let chunks = c.chunks_exact-unit-items.ensures in
    rw (start, chunks.size, chunks.rest)
    (refl, left_all c.args.size c.args.buffer.now, summed_none _ _ _ _ c.args.image.now c.requires.1 c.clear_unit.ensures)

pub mix_in-requires : goal.mix_in-requires
mix_in-requires c =
    let size = c.in-Some.ensures.steps.1.1 ∙ c.loop-unit.invariant.0 in
    rw size (omega (arith, c.loop-unit.invariant.2.fits, c.loop-unit.invariant.2.same))

pub loop-unit-preserved : goal.loop-unit-preserved
loop-unit-preserved c =
    let inv = c.loop-unit.invariant in
    let step = c.in-Some.ensures.steps in
    let size : length c.in-Some.unit.now ≡ c.args.size = step.1.1 ∙ inv.0 in
    let is = next_is inv.1 _ _ step.1.0 size in
    rw (length-append c.loop-unit.yielded _)
    (step.0 ∙ inv.0, left_next inv.1 _ _ step.1.0 size, summed_next _ _ _ _ _ _ inv.2 _ c.in-Some.unit.now size is (rw size at c.mix_in.ensures))

pub shape_of-image : goal.shape_of-image
shape_of-image c = c.loop-unit.invariant.2.same ∙ c.clear_unit.auto.image

pub returns : goal.returns
returns c =
    let inv = c.loop-unit.invariant in
    let count = left_none inv.1 (omega (arith, c.in-None.ensures.steps.1.0, inv.0)) in
    rw count at (summed_all _ _ _ _ _ _ inv.2 c.args.image.now _ (unit_at c.args.size c.args.buffer.now) c.requires.1 (length-replicate _ 0) c.clear_unit.ensures (λ i l. refl))
