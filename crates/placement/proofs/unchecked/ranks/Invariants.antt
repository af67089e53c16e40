use Rattle.placement.proofs.Ranks.{Ranking}
use Rattle.placement.proofs.unchecked.ranks.Given as goal

abbrev pub invariant-loop-i : goal.invariant-loop-i
invariant-loop-i l = Ranking l.table l.i l.counts l.ranks
