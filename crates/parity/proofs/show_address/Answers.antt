-- `parity::show_address` meets its contract: the part handed out is as the verdict says. Assumes nothing.
use mathlib.Core.Path.{sym, ap, ◌∙◌}
use Rattle.design.specs.Refusals.{verdict}
use Rattle.parity.specs.Calls.{address_shown}
use Rattle.parity.proofs.Accepted.{unit_accepted}
use Rattle.parity.proofs.By.{by_accepted, by_refused}
use Rattle.parity.proofs.show_address.Goals as goal

pub returns-in_default : goal.returns-in_default
unfolding address_shown
returns-in_default c = sym (by_refused _ _ (sym c.of_unit.ensures.judged ∙ ap verdict c.in_default.is))

pub shown-requires : goal.shown-requires
shown-requires c = rw c.in-Ok.ensures.passed ((unit_accepted _ _ _ _).0 (sym c.in-Ok.ensures.judged))

pub returns : goal.returns
unfolding address_shown
returns c = (rw c.in-Ok.ensures.passed at c.shown.ensures) ∙ sym (by_accepted _ _ (sym c.in-Ok.ensures.judged))
