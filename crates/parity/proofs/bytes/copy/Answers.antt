-- `parity::bytes::copy` meets its contract. The loop's invariant: the bytes before i are those of `from`. Assumes nothing.
use mathlib.Core.Path.{refl, sym}
use native.Mathlib.Nat.{zero-add}
use native.Mathlib.Omega.{arith}
use Rattle.design.proofs.Writing.{begun_none, begun_next, begun_whole}
use Rattle.parity.proofs.bytes.copy.Goals as goal

pub loop-i-init : goal.loop-i-init
loop-i-init c = begun_none _ _ _ _ (sym c.requires) (omega arith)

pub loop-i-preserved : goal.loop-i-preserved
loop-i-preserved c = begun_next _ _ _ _ _ _ c.loop-i.invariant _ _ c.loop-i-test.true (sym (zero-add _)) refl

pub shape_of-to : goal.shape_of-to
shape_of-to c = c.loop-i.invariant.same

pub returns : goal.returns
returns c = begun_whole _ _ _ _ c.loop-i.invariant c.loop-i-test.false
