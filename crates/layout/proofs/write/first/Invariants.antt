use Rattle.layout.specs.Text.{joined}
use Rattle.layout.specs.inner.Steps.{Wrote}
use Rattle.layout.proofs.FirstLine.{number_word}
use Rattle.layout.proofs.write.first.Given as goal

abbrev pub invariant-loop-n : goal.invariant-loop-n
invariant-loop-n l = Wrote l.initial.pen (joined l.n-index (number_word l.n-items)) l.pen
