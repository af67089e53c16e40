-- `parity::units::load` meets its contract. Assumes nothing.
use mathlib.Core.Path.{◌∙◌}
use lib.ListN.{length}
use Rattle.parity.proofs.Put.{part-unit}
use Rattle.parity.proofs.units.load.Goals as goal

pub returns : goal.returns
returns c =
    let a = c.args in
    c.copy.ensures ∙ part-unit (length a.unit.now) a.image.now a.n
