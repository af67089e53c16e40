-- `parity::write` meets its contract: what it gives and leaves is as the verdict says. Assumes nothing.
use mathlib.Core.Path.{sym}
use Rattle.parity.proofs.Accepted.{unit_accepted}
use Rattle.design.proofs.Refused.{handed_err}
use Rattle.parity.proofs.By.{refused_answers, accepted_answers}
use Rattle.parity.proofs.write.Goals as goal

pub returns-in_err-checked : goal.returns-in_err-checked
returns-in_err-checked c = refused_answers _ (sym c.in_err-checked.ensures.judged) (handed_err _ c.from_residual.ensures)

pub store-requires : goal.store-requires
store-requires c = rw c.in_ok-checked.ensures.passed ((unit_accepted _ _ _ _).0 (sym c.in_ok-checked.ensures.judged))

pub returns : goal.returns
returns c =
    let given = rw c.in_ok-checked.ensures.passed at c.store.ensures in
    accepted_answers _ (sym c.in_ok-checked.ensures.judged) given.0 given.1
