-- `parity::bytes::mix` meets its contract. The loop's invariant: the bytes before i are mixed, and the others as they were.
-- Assumes nothing.
use mathlib.Core.Path.{refl, sym, ap, ◌∙◌}
use mathlib.Core.Logic.{inr}
use Prim.Native.Nat.{ℕ}
use native.Mathlib.Nat.{zero-add}
use native.Mathlib.Omega.{arith}
use lib.Bits.{bit_xor}
use lib.ListN.{get_or}
use Rattle.design.proofs.Writing.{begun_none, begun_next, begun_whole}
use Rattle.parity.proofs.Xor.{xor_u-length}
use Rattle.parity.proofs.Writing.{begun_rest, byte-xor}
use Rattle.parity.proofs.bytes.mix.Goals as goal

pub loop-i-init : goal.loop-i-init
loop-i-init c = begun_none _ _ _ _ (xor_u-length _ _ _ refl (sym c.requires)) (omega arith)

pub loop-i-preserved : goal.loop-i-preserved
loop-i-preserved c =
    let inv = c.loop-i.invariant in
    begun_next _ _ _ _ _ _ inv _ _ c.loop-i-test.true (sym (zero-add _))
    (ap (λ (x : ℕ). bit_xor x (get_or c.args.from.now c.loop-i.i 0)) (begun_rest _ _ _ _ _ _ inv c.loop-i.i (inr (omega arith)))
    ∙ sym (byte-xor c.args.to.now c.args.from.now c.loop-i.i))

pub shape_of-to : goal.shape_of-to
shape_of-to c = c.loop-i.invariant.same

pub returns : goal.returns
returns c = begun_whole _ _ _ _ c.loop-i.invariant c.loop-i-test.false
