-- `parity::presence::is_lost` meets its contract: each arm is told the loss. Assumes nothing.
use Rattle.design.specs.Loss.{lost_in}
use Rattle.parity.proofs.presence.is_lost.Goals as goal

pub returns-in-None : goal.returns-in-None
unfolding lost_in
returns-in-None c = rw (c.in-None.is, lost_in)

pub returns-in-Some : goal.returns-in-Some
unfolding lost_in
returns-in-Some c = rw (c.in-Some.is, lost_in)
