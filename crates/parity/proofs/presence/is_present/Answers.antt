-- `parity::presence::is_present` meets its contract: the disk of a unit is found by the units of a disk. Assumes nothing.
use mathlib.Core.Path.{ap}
use mathlib.Core.Bool.{not}
use Rattle.parity.specs.Stripe.{present}
use Rattle.parity.proofs.Home.{depth_pos}
use Rattle.parity.proofs.presence.is_present.Goals as goal

pub nonzero_div-n : goal.nonzero_div-n
nonzero_div-n c = rw c.offsets.ensures (depth_pos _ c.args.checked.passed)

pub returns : goal.returns
unfolding present
returns c = ap not (rw c.offsets.ensures at c.is_lost.ensures)
