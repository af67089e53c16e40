use Rattle.design.proofs.Rows.{Adding}
use Rattle.design.proofs.planes.add.Given as goal

abbrev pub invariant-loop-word : goal.invariant-loop-word
invariant-loop-word l = Adding l.initial.row l.mask l.row l.carry l.word-index
