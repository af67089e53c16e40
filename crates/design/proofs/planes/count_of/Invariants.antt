use mathlib.Core.Path.{◌≡◌}
use Rattle.design.specs.inner.Planes.{lane, plane_of}
use Rattle.design.proofs.planes.count_of.Given as goal

abbrev pub invariant-loop-i : goal.invariant-loop-i
invariant-loop-i l = l.n ≡ lane (plane_of l.row) l.i l.e
