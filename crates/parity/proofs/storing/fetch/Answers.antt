-- `parity::storing::fetch` meets its contract: where the unit stands, and then a load or the exclusive-or of the others. Assumes nothing.
use mathlib.Core.Path.{sym, ◌∙◌}
use native.Mathlib.Omega.{arith}
use Rattle.parity.proofs.Accepted.{call_data_lt}
use Rattle.parity.proofs.Addressed.{unit_within, data_call, read_here, read-lost}
use Rattle.parity.proofs.storing.fetch.Goals as goal

pub standing_of-at-requires : goal.standing_of-at-requires
standing_of-at-requires c = c.requires.address

pub load-requires : goal.load-requires
load-requires c = unit_within c.requires c.standing_of-at.ensures

pub returns-then-is_present : goal.returns-then-is_present
returns-then-is_present c =
    read_here c.requires c.standing_of-at.ensures (sym c.is_present.ensures ∙ c.if-is_present.true) c.load.ensures

pub fetch_lost-requires : goal.fetch_lost-requires
fetch_lost-requires c = data_call c.requires c.standing_of-at.ensures

pub overflow_sub-result : goal.overflow_sub-result
overflow_sub-result c = omega (arith, call_data_lt c.requires)

pub returns : goal.returns
returns c =
    read-lost c.requires c.standing_of-at.ensures (sym c.is_present.ensures ∙ c.if-is_present.false) c.fetch_lost.ensures
