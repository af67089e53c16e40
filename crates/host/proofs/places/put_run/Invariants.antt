use mathlib.Core.Path.{◌≡◌}
use Prim.Native.Nat.{◌/◌}
use lib.ListN.{length}
use Rattle.placement.specs.Layout.{layout_in}
use Rattle.host.specs.Places.{spots_into}
use Rattle.host.proofs.Spotted.{spots_left}
use Rattle.host.proofs.places.put_run.Given as goal

abbrev pub invariant-loop-i : goal.invariant-loop-i
invariant-loop-i l = (length l.out ≡ length l.initial.out) × (spots_left (layout_in l.checked.shelf.now) l.first (length l.initial.out / 16) l.i l.out ≡ spots_into (layout_in l.checked.shelf.now) l.first 0 (length l.initial.out / 16) l.initial.out)
