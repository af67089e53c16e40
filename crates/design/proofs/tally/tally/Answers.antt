-- `design::tally::tally` meets its contract. The loop's invariant: the tuples passed are tallied, and the iterator has the others left.
-- Assumes nothing.
use mathlib.Core.Path.{◌≡◌, sym, ◌∙◌}
use mathlib.Core.List.{[], ◌∷◌, ◌++◌}
use Prim.Native.Nat.{◌+◌}
use native.Mathlib.Omega.{arith}
use lib.ListN.{length, length-append}
use Rattle.design.specs.inner.Tally.{disk_at, tuples_of}
use Rattle.design.proofs.Chunks.{CutNext, cut_none, cut_next}
use Rattle.design.proofs.Twice.{twice}
use Rattle.design.proofs.Tallies.{tallied_none, tallied_next, shared-le}
use Rattle.design.proofs.tally.tally.Goals as goal

pub loop-tuple-init : goal.loop-tuple-init
loop-tuple-init c = (cut_none _ _ _ (cc) (cc), tallied_none _)

pub tally_tuple-requires-clause-different : goal.tally_tuple-requires-clause-different
tally_tuple-requires-clause-different c =
    λ i j hi hj e.
    let q = length c.loop-tuple.yielded in
    let n : CutNext c.args.k c.args.disks.now q c.in-Some.tuple.now c.next.new.self = cut_next _ _ _ _ q c.in-Some.tuple c.requires.few.0 c.loop-tuple.invariant.0 c.in-Some.ensures.steps in
    (twice (tuples_of c.args.k c.args.disks.now)).0 c.requires.different q n.within i j (rw n.whole at hi) (rw n.whole at hj)
    (sym (n.same i (rw n.whole at hi)) ∙ e ∙ n.same j (rw n.whole at hj))

pub tally_tuple-requires-clause-room : goal.tally_tuple-requires-clause-room
tally_tuple-requires-clause-room c =
    λ d e hd he.
    let q = length c.loop-tuple.yielded in
    omega (arith, c.loop-tuple.invariant.1 d e hd, shared-le (tuples_of c.args.k c.args.disks.now) q d e, c.loop-tuple.invariant.0.most, c.requires.few.1)

pub loop-tuple-preserved : goal.loop-tuple-preserved
loop-tuple-preserved c =
    let q = length c.loop-tuple.yielded in
    let D = tuples_of c.args.k c.args.disks.now in
    let n : CutNext c.args.k c.args.disks.now q c.in-Some.tuple.now c.next.new.self = cut_next _ _ _ _ q c.in-Some.tuple c.requires.few.0 c.loop-tuple.invariant.0 c.in-Some.ensures.steps in
    let more : length (c.loop-tuple.yielded ++ c.in-Some.tuple ∷ []) ≡ q + 1 = length-append c.loop-tuple.yielded (c.in-Some.tuple ∷ []) in
    rw more (n.after, tallied_next D q (disk_at c.in-Some.tuple.now) _ _ n.same c.loop-tuple.invariant.1 (rw n.whole at c.tally_tuple.ensures))
