use mathlib.Core.Path.{◌≡◌}
use lib.ListN.{length}
use Rattle.design.specs.inner.Tally.{disk_at}
use Rattle.design.proofs.Tallies.{AddedRows}
use Rattle.design.proofs.tally.tally_tuple.Given as goal

abbrev pub invariant-loop-d : goal.invariant-loop-d
invariant-loop-d l = (length l.counts ≡ 64) × AddedRows (disk_at l.tuple) l.mask l.d-index l.initial.counts l.counts
