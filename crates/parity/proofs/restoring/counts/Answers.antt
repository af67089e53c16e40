-- `parity::restoring::counts` meets its contract. The loop's invariant: the counts of the disks below e are filled. Assumes nothing.
use mathlib.Core.Path.{sym, ◌∙◌}
use Prim.Native.Nat.{◌≤◌, ◌<◌}
use native.Mathlib.Omega.{arith}
use lib.Seq.{length-take-le}
use Rattle.std.proofs.lemmas.List.{set-get_or}
use Rattle.design.proofs.ShelfTests.{shelf_parts}
use Rattle.parity.proofs.ReadCounts.{copies_most, each_most, filled_none, filled_next, filled_over, filled-all}
use Rattle.parity.proofs.restoring.counts.Goals as goal
use Rattle.parity.proofs.restoring.counts.Goals.{Start, In-loop-e, then-not-is_lost, else-not-is_lost}

most : (c : Start) → c.args.checked.shelf.now.v ≤ 64
most c = omega (arith, (shelf_parts _ c.args.checked.passed).limits.v_most)

pub overflow_mul-each : goal.overflow_mul-each
overflow_mul-each c = omega (arith, copies_most _ c.args.checked.passed)

pub overflow_mul-each-2 : goal.overflow_mul-each-2
overflow_mul-each-2 c = omega (arith, each_most _ c.args.checked.passed)

pub slice_bounds-counts-end : goal.slice_bounds-counts-end
slice_bounds-counts-end c = most (goal.at.slice_bounds-counts-end c).Start

pub slice_bounds-count-items-end : goal.slice_bounds-count-items-end
slice_bounds-count-items-end c = sym (length-take-le _ _ (most (goal.at.slice_bounds-count-items-end c).Start))

pub loop-e-init : goal.loop-e-init
loop-e-init c = (omega arith, filled_none _ _ _ (most (goal.at.loop-e-init c).Start))

-- e is a disk
below : (c : In-loop-e) → c.loop-e.e < c.args.checked.shelf.now.v
below c = omega (arith, c.loop-e-test.true, c.loop-e.auto.count-items, c.loop-e.invariant.1.size)

pub loop-e-preserved : goal.loop-e-preserved
loop-e-preserved c =
    let l = below (goal.at.loop-e-preserved c).In-loop-e in (
      omega (arith, l),
      elim c.if-not-is_lost.branch [
        | then-not-is_lost w ↦ rw w.count-items-is (filled_next _ _ _ _ _ c.loop-e.invariant.1 l (sym c.is_lost.ensures ∙ w.if-not-is_lost.true))
        | else-not-is_lost w ↦ rw (w.count-items-is, set-get_or c.loop-e.count-items c.loop-e.e 0) (filled_over _ _ _ _ _ c.loop-e.invariant.1 (sym c.is_lost.ensures ∙ w.if-not-is_lost.false))
      ],
    )

pub returns : goal.returns
returns c =
    let F = c.loop-e.invariant.1 in
    filled-all _ c.args.checked.passed c.requires F (omega (arith, c.loop-e.invariant.0, c.loop-e-test.false, c.loop-e.auto.count-items, F.size))
