use Rattle.layout.specs.Text.{joined}
use Rattle.layout.specs.inner.Steps.{Wrote}
use Rattle.layout.proofs.Ranking.{ranked_data}
use Rattle.layout.proofs.write.Rows.line.Given as goal

abbrev pub invariant-loop-j : goal.invariant-loop-j
invariant-loop-j l = Wrote l.initial.pen (joined l.j (ranked_data l.self l.s)) l.pen
