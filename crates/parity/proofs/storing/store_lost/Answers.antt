-- `parity::storing::store_lost` meets its contract: the parity alone takes the unit in. Assumes nothing.
use Rattle.parity.proofs.storing.store_lost.Goals as goal

pub reparity-requires : goal.reparity-requires
reparity-requires c = rw c.of.ensures c.requires

pub returns : goal.returns
returns c = rw c.of.ensures at c.reparity.ensures
