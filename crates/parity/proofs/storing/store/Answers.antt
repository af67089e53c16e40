-- `parity::storing::store` meets its contract: where the unit and the parity stand, and then one of three ways to write. Assumes nothing.
use mathlib.Core.Path.{sym, ◌∙◌}
use native.Mathlib.Omega.{arith}
use Rattle.parity.proofs.Accepted.{call_data_lt}
use Rattle.parity.proofs.Addressed.{unit_within, parity_within, data_call, write_parity-lost, write_data_lost, write_here}
use Rattle.parity.proofs.storing.store.Goals as goal

pub standing_of-at-requires : goal.standing_of-at-requires
standing_of-at-requires c = c.requires.address

pub store-requires : goal.store-requires
store-requires c = unit_within c.requires c.standing_of-at.ensures

pub returns-then-not-is_present : goal.returns-then-not-is_present
returns-then-not-is_present c =
    write_parity-lost c.requires c.standing_of-at.ensures (sym c.is_present.ensures ∙ c.if-not-is_present.true) c.store.ensures

pub store_lost-requires : goal.store_lost-requires
store_lost-requires c = data_call c.requires c.standing_of-at.ensures

pub overflow_sub-result : goal.overflow_sub-result
overflow_sub-result c = omega (arith, call_data_lt c.requires)

pub returns-then-not-is_present-2 : goal.returns-then-not-is_present-2
returns-then-not-is_present-2 c =
    write_data_lost c.requires c.standing_of-at.ensures
    (sym c.is_present-2.ensures ∙ c.if-not-is_present-2.true)
    c.store_lost.ensures

pub renew-requires : goal.renew-requires
renew-requires c =
    (unit_within c.requires c.standing_of-at.ensures, parity_within c.requires c.standing_of-at.ensures)

pub returns : goal.returns
returns c =
    write_here c.requires c.standing_of-at.ensures
    (sym c.is_present-2.ensures ∙ c.if-not-is_present-2.false)
    (sym c.is_present.ensures ∙ c.if-not-is_present.false)
    c.renew.ensures
