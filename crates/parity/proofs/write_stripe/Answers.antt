-- `parity::write_stripe` meets its contract: what it gives and leaves is as the verdict says. Assumes nothing.
use mathlib.Core.Path.{sym, ap}
use Rattle.parity.specs.Calls.{cost}
use Rattle.parity.proofs.Accepted.{stripe_write_accepted}
use Rattle.design.proofs.Refused.{handed_err}
use Rattle.parity.proofs.By.{refused_answers, accepted_answers}
use Rattle.parity.proofs.write_stripe.Goals as goal

pub returns-in_err-checked : goal.returns-in_err-checked
returns-in_err-checked c = refused_answers _ (sym c.in_err-checked.ensures.judged) (handed_err _ c.from_residual.ensures)

pub store_stripe-written-requires : goal.store_stripe-written-requires
store_stripe-written-requires c = rw c.in_ok-checked.ensures.passed ((stripe_write_accepted _ _ _ _).0 (sym c.in_ok-checked.ensures.judged))

pub returns : goal.returns
returns c =
    let given = rw c.in_ok-checked.ensures.passed at c.store_stripe-written.ensures in
    accepted_answers _ (sym c.in_ok-checked.ensures.judged) (ap (cost 0) given.0) given.1
