-- `parity::units::mix_within` meets its contract. Assumes nothing.
use Rattle.parity.proofs.units.mix_within.Goals as goal

pub join-requires : goal.join-requires
join-requires c = (c.requires.0, c.requires.0, c.requires.1)

pub returns : goal.returns
returns c = c.join.ensures
