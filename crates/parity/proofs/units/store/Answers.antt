-- `parity::units::store` meets its contract. Assumes nothing.
use mathlib.Core.Path.{refl}
use lib.ListN.{length}
use Rattle.parity.proofs.Put.{part-put}
use Rattle.parity.proofs.units.store.Goals as goal

pub returns : goal.returns
returns c =
    let a = c.args in
    rw c.copy.ensures (part-put (length a.unit.now) a.image.now a.n a.unit.now refl)
