-- `design::tally::tally_tuple` meets its contract. The loop's invariant: the mask is added to the rows of the disks at the positions passed.
-- Assumes nothing.
use mathlib.Core.Path.{◌≡◌}
use Prim.Native.Nat.{◌<◌}
use native.Mathlib.Omega.{arith}
use lib.ListN.{length, length-set}
use Rattle.design.specs.inner.Tally.{disk_at}
use Rattle.design.proofs.Bits.{bit-lt}
use Rattle.design.proofs.Tallies.{rows_none, rows_next, rows_le, tuple_added}
use Rattle.design.proofs.tally.tally_tuple.Goals as goal

pub loop-d-init : goal.loop-d-init
loop-d-init c = (c.told-counts, rows_none _ _ _)

-- each lane has room for one more
pub add-requires : goal.add-requires
add-requires c =
    λ e l.
    let d = c.from.result in
    let h : d < 64 = omega (arith, c.from.ensures, c.requires.below c.loop-d.d-index 0 c.loop-d-test.true) in
    omega (
      arith,
      rows_le (disk_at c.args.tuple.now) (length c.args.tuple.now) c.mask_of-mask.result c.loop-d.d-index c.args.counts.now c.loop-d.counts (omega arith) c.requires.different
          c.loop-d.invariant.1 d e,
      c.requires.room d e h l,
      bit-lt c.mask_of-mask.result e,
    )

pub loop-d-preserved : goal.loop-d-preserved
loop-d-preserved c =
    let l = c.loop-d in
    let long = l.invariant.0 in
    let h : c.from.result < length l.counts = omega (arith, c.from.ensures, c.requires.below l.d-index 0 c.loop-d-test.true) in
    (simp length-set long, rows_next (disk_at c.args.tuple.now) _ _ _ _ _ _ c.from.ensures h l.invariant.1 c.add.ensures)

pub returns : goal.returns
returns c =
    let e : c.loop-d.d-index ≡ length c.args.tuple.now = omega arith in
    tuple_added (disk_at c.args.tuple.now) _ c.mask_of-mask.result _ _ c.requires.different c.mask_of-mask.ensures (rw e at c.loop-d.invariant.1)
