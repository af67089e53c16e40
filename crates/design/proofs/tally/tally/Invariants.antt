use lib.ListN.{length}
use Rattle.design.specs.inner.Tally.{tuples_of, Tallied}
use Rattle.design.proofs.Chunks.{Cut}
use Rattle.design.proofs.tally.tally.Given as goal

abbrev pub invariant-loop-tuple : goal.invariant-loop-tuple
invariant-loop-tuple l =
    Cut l.k l.disks l.tuple-iterator (length l.yielded) × Tallied (tuples_of l.k l.disks) (length l.yielded) l.counts
