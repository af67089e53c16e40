use Rattle.layout.proofs.Digits.{Left}
use Rattle.layout.proofs.pen.Pen.number.Given as goal

abbrev pub invariant-loop-i : goal.invariant-loop-i
invariant-loop-i l = Left l.n l.end l.initial.self l.rest l.i l.self
