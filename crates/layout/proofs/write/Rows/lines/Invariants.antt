use Prim.Native.Nat.{◌-◌}
use Rattle.layout.specs.inner.Steps.{Wrote}
use Rattle.layout.proofs.Ranking.{ranked_lines}
use Rattle.layout.proofs.write.Rows.lines.Given as goal

abbrev pub invariant-loop-s : goal.invariant-loop-s
invariant-loop-s l = Wrote l.initial.pen (ranked_lines l.self l.first (l.s - l.first)) l.pen
