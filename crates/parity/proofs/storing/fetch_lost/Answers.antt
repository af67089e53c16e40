-- `parity::storing::fetch_lost` meets its contract: the exclusive-or of the other units. Assumes nothing.
use Rattle.parity.proofs.storing.fetch_lost.Goals as goal

pub gather-requires : goal.gather-requires
gather-requires c =
    rw c.of.ensures (record { size = c.requires.size; stripe = c.requires.stripe; unit = c.requires.exact })

pub returns : goal.returns
returns c = rw c.of.ensures at c.gather.ensures
