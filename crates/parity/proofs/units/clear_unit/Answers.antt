-- `parity::units::clear_unit` meets its contract. Assumes nothing.
use lib.ListN.{length-replicate}
use Rattle.parity.specs.Units.{zeros}
use Rattle.parity.proofs.Put.{part_size, part-put}
use Rattle.parity.proofs.units.clear_unit.Goals as goal

pub returns : goal.returns
returns c =
    let a = c.args in
    rw (c.fill.ensures.after (λ y e. e), part_size a.size a.image.now a.n c.requires)
    (part-put a.size a.image.now a.n (zeros a.size) (length-replicate a.size 0))
