-- `parity::units::join` meets its contract. The loop's invariant: the bytes of unit `to` before i are the exclusive-or, and all others as
-- they were. Assumes nothing.
use mathlib.Core.Path.{refl, sym, ap₂, ◌∙◌}
use lib.Bits.{bit_xor}
use Rattle.design.proofs.Writing.{begun_none, begun_next, begun_all}
use Rattle.parity.specs.Units.{unit_at}
use Rattle.parity.specs.inner.Stores.{put_unit}
use Rattle.parity.proofs.Xor.{xor_u-length}
use Rattle.parity.proofs.Put.{unit_size}
use Rattle.parity.proofs.Writing.{byte-xor, byte_unread}
use Rattle.parity.proofs.units.join.Goals as goal

pub loop-i-init : goal.loop-i-init
loop-i-init c =
    let a = c.args in
    begun_none _ _ _ _
    (xor_u-length a.size _ _ (unit_size a.size a.image.now a.x c.requires.1) (unit_size a.size a.image.now a.y c.requires.2))
    c.requires.0

pub loop-i-preserved : goal.loop-i-preserved
loop-i-preserved c =
    let a = c.args in
    let more = c.loop-i-test.true in
    let unread = byte_unread a.size a.image.now a.to _ c.loop-i.image c.loop-i.i c.loop-i.invariant more in
    begun_next _ _ _ _ _ _ c.loop-i.invariant _ _ more refl
    (ap₂ bit_xor (unread a.x) (unread a.y) ∙ sym (byte-xor (unit_at a.size a.image.now a.x) (unit_at a.size a.image.now a.y) c.loop-i.i))

pub shape_of-image : goal.shape_of-image
shape_of-image c = c.loop-i.invariant.same

pub returns : goal.returns
unfolding put_unit
returns c = begun_all _ _ _ _ _ _ c.loop-i.invariant c.loop-i-test.false
