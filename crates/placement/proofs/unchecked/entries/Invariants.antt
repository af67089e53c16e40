use Rattle.placement.proofs.Listing.{Listing}
use Rattle.placement.proofs.unchecked.entries.Given as goal

abbrev pub invariant-loop-i : goal.invariant-loop-i
invariant-loop-i l = Listing l.table l.d l.i l.entries l.found
