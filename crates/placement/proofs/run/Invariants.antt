use mathlib.Core.Path.{◌≡◌}
use Rattle.placement.specs.Layout.{layout_in}
use Rattle.placement.proofs.Lists.{filled}
use Rattle.placement.proofs.run.Given as goal

abbrev pub invariant-loop-i : goal.invariant-loop-i
invariant-loop-i l = l.list ≡ filled (layout_in l.fn.shelf) l.first l.i l.initial.list
