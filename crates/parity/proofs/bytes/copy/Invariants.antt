use lib.ListN.{length}
use Rattle.design.proofs.Writing.{Begun}
use Rattle.parity.proofs.bytes.copy.Given as goal

abbrev pub invariant-loop-i : goal.invariant-loop-i
invariant-loop-i l = Begun l.initial.to 0 l.from (length l.initial.to) l.to l.i
