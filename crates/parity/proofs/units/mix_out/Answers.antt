-- `parity::units::mix_out` meets its contract. Assumes nothing.
use mathlib.Core.Path.{ap, ◌∙◌}
use lib.ListN.{length}
use Rattle.parity.specs.Units.{xor_u}
use Rattle.parity.proofs.Put.{part-unit}
use Rattle.parity.proofs.units.mix_out.Goals as goal

pub returns : goal.returns
returns c =
    let a = c.args in
    c.mix.ensures ∙ ap (xor_u a.unit.now) (part-unit (length a.unit.now) a.image.now a.n)
