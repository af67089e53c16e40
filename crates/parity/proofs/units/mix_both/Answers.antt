-- `parity::units::mix_both` meets its contract. The loop's invariant: the bytes of unit `to` before i are mixed, and all others as they
-- were. Assumes nothing.
use mathlib.Core.Path.{◌≡◌, refl, sym, ap, ap₂, ◌∙◌}
use mathlib.Core.List.{List}
use Prim.Native.Nat.{ℕ, ◌+◌, ◌*◌, ◌<◌}
use native.Mathlib.Omega.{arith}
use lib.Bits.{bit_xor}
use lib.ListN.{length, get_or}
use Rattle.design.proofs.Writing.{Begun, begun_none, begun_next, begun_all}
use Rattle.parity.specs.Units.{unit_at, xor_u}
use Rattle.parity.specs.inner.Stores.{put_unit}
use Rattle.parity.proofs.Xor.{xor_u-length}
use Rattle.parity.proofs.Put.{unit_size}
use Rattle.parity.proofs.Writing.{byte-xor, byte_unread}
use Rattle.parity.proofs.units.mix_both.Invariants.{Mixed}
use Rattle.parity.proofs.units.mix_both.Goals as goal

byte_mixed : (was : List ℕ) (to from : ℕ) (unit now : List ℕ) (i : ℕ) → i < length unit
    → Begun was (to * length unit) (Mixed was to from unit) (length unit) now i
    → bit_xor (get_or now (to * length unit + i) 0) (bit_xor (get_or now (from * length unit + i) 0) (get_or unit i 0)) ≡ get_or (Mixed was to from unit) i 0
byte_mixed was to from unit now i l b =
    let U : ℕ = length unit in
    let unread = byte_unread U was to (Mixed was to from unit) now i b l in
    ap₂ bit_xor (unread to) (ap (λ (x : ℕ). bit_xor x (get_or unit i 0)) (unread from) ∙ sym (byte-xor (unit_at U was from) unit i))
    ∙ sym (byte-xor (unit_at U was to) (xor_u (unit_at U was from) unit) i)

pub loop-i-init : goal.loop-i-init
loop-i-init c =
    let a = c.args in
    let U : ℕ = length a.unit.now in (
      refl,
      begun_none _ _ _ _
          (xor_u-length U _ _ (unit_size U a.image.now a.to c.requires.0) (xor_u-length U _ _ (unit_size U a.image.now a.from c.requires.1) refl))
          c.requires.0,
    )

pub loop-i-preserved : goal.loop-i-preserved
loop-i-preserved c =
    let a = c.args in
    let inv = c.loop-i.invariant in
    let more : c.loop-i.i < length a.unit.now = omega (arith, inv.0, c.loop-i-test.true) in
    (inv.0, begun_next _ _ _ _ _ _ inv.1 _ _ more (rw inv.0) (byte_mixed a.image.now a.to a.from a.unit.now c.loop-i.image c.loop-i.i more inv.1))

pub shape_of-image : goal.shape_of-image
shape_of-image c = c.loop-i.invariant.1.same

pub returns : goal.returns
unfolding put_unit
returns c = begun_all _ _ _ _ _ _ c.loop-i.invariant.1 (omega (arith, c.loop-i.invariant.0, c.loop-i-test.false))
