-- `host::numbers::put_all` meets its contract. The loop's invariant: what is left to put gives what is promised. Assumes
-- nothing.
use mathlib.Core.Path.{refl, ◌∙◌}
use native.Mathlib.Omega.{arith}
use Rattle.host.proofs.Numbering.{put-start, put_more, put_done}
use Rattle.host.proofs.numbers.put_all.Goals as goal

pub loop-i-init : goal.loop-i-init
loop-i-init c = (refl, put-start _ _ _)

pub loop-i-preserved : goal.loop-i-preserved
loop-i-preserved c =
    let l = c.loop-i in
    let args = c.args in (
      omega (arith, c.put.auto),
      put_more l.bytes args.from args.list.now l.i (omega arith) c.put.ensures ∙ l.invariant.1,
    )

pub shape_of-bytes : goal.shape_of-bytes
shape_of-bytes c = c.loop-i.invariant.0

pub returns : goal.returns
returns c =
    let l = c.loop-i in
    let args = c.args in
    put_done l.bytes args.from args.list.now l.i (omega arith) ∙ l.invariant.1
