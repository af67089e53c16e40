-- `design::rules::twice_in` meets its contract. The outer loop's invariant: no disk before position i stands again; the inner loop's: the disk
-- at i stands at no position passed. The first pair found is then that of the first position whose disk stands again. Assumes nothing.
use mathlib.Core.Path.{◌≡◌, refl, sym, ap, ◌∙◌}
use mathlib.Core.Bool.{false, not}
use native.Mathlib.Omega.{arith}
use lib.ListN.{length}
use Rattle.design.specs.Tuples.{again}
use Rattle.design.specs.inner.Tally.{disk_at}
use Rattle.design.proofs.Twice.{again_of, again_none, none_repeated, repeated-first}
use Rattle.design.proofs.Counting.{every_none, every_next}
use Rattle.design.proofs.rules.twice_in.Goals as goal

pub search-init : goal.search-init
search-init c = (refl, every_none _)

pub search-preserved : goal.search-preserved
search-preserved c =
    let tuple = disk_at c.args.tuple.now in
    let k = length c.args.tuple.now in
    let i = c.search.i in
    let none : again tuple k i ≡ false = again_none tuple k i (λ p h l. c.loop-j.invariant.1 p (omega arith) h) in
    (c.loop-j.invariant.0, every_next i (λ p. not (again tuple k p)) c.search.invariant.1 (ap not none))

pub returns-after-search : goal.returns-after-search
returns-after-search c =
    let tuple = c.args.tuple.now in
    let e : c.search.i ≡ length tuple = omega arith in
    c.search.invariant.0 ∙ sym ((none_repeated (disk_at tuple) (length tuple)).1 (rw e at c.search.invariant.1))

pub returns-then-tuple-i : goal.returns-then-tuple-i
returns-then-tuple-i c =
    let tuple = disk_at c.args.tuple.now in
    let k = length c.args.tuple.now in
    let i = c.search.i in
    sym (repeated-first tuple k i (omega arith) (again_of tuple k i c.loop-j.j (omega arith) (omega arith) c.if-tuple-i.true) c.search.invariant.1)
