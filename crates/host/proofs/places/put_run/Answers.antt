-- `host::places::put_run` meets its contract. The loop's invariant: what is left to write gives what is promised. Assumes
-- nothing.
use mathlib.Core.Path.{refl, ◌∙◌}
use Prim.Native.Nat.{◌/◌}
use native.Mathlib.Omega.{arith}
use lib.ListN.{length}
use Rattle.placement.specs.Layout.{layout_in}
use Rattle.placement.proofs.Bounds.{bounds}
use Rattle.host.proofs.Spotted.{run_start, run_more, run_done}
use Rattle.host.proofs.places.put_run.Goals as goal

pub loop-i-init : goal.loop-i-init
loop-i-init c = (refl, run_start _ _ _ _)

pub overflow_add-first : goal.overflow_add-first
overflow_add-first c = omega (arith, (bounds _ c.args.checked.passed).addresses)

pub loop-i-preserved : goal.loop-i-preserved
loop-i-preserved c =
    let l = c.loop-i in
    let args = c.args in (
      omega (arith, c.put_spot.auto),
      run_more (layout_in args.checked.shelf.now) args.first (length args.out.now / 16) l.i l.out (omega arith) c.put_spot.ensures c.spot.ensures ∙ l.invariant.1,
    )

pub shape_of-out : goal.shape_of-out
shape_of-out c = c.loop-i.invariant.0

pub returns : goal.returns
returns c =
    let l = c.loop-i in
    let args = c.args in
    run_done (layout_in args.checked.shelf.now) args.first (length args.out.now / 16) l.i l.out (omega arith) ∙ l.invariant.1
