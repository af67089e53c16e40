-- `parity::units::mix_in` meets its contract. Assumes nothing.
use mathlib.Core.Path.{refl}
use lib.ListN.{length}
use Rattle.parity.proofs.Put.{part-unit, part-put, unit_size}
use Rattle.parity.proofs.Xor.{xor_u-length}
use Rattle.parity.proofs.units.mix_in.Goals as goal

pub returns : goal.returns
returns c =
    let a = c.args in
    rw (c.mix.ensures, part-unit (length a.unit.now) a.image.now a.n)
    (part-put _ a.image.now a.n _ (xor_u-length _ _ a.unit.now (unit_size _ a.image.now a.n c.requires) refl))
