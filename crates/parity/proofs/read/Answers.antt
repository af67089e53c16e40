-- `parity::read` meets its contract: what it gives and leaves is as the verdict says. Assumes nothing.
use mathlib.Core.Path.{sym, ap}
use Prim.Native.Nat.{ℕ}
use Rattle.parity.specs.Calls.{cost}
use Rattle.parity.proofs.Accepted.{unit_accepted}
use Rattle.design.proofs.Refused.{handed_err}
use Rattle.parity.proofs.By.{refused_answers, accepted_answers}
use Rattle.parity.proofs.read.Goals as goal

pub returns-in_err-checked : goal.returns-in_err-checked
returns-in_err-checked c = refused_answers _ (sym c.in_err-checked.ensures.judged) (handed_err _ c.from_residual.ensures)

pub fetch-read-requires : goal.fetch-read-requires
fetch-read-requires c = rw c.in_ok-checked.ensures.passed ((unit_accepted _ _ _ _).0 (sym c.in_ok-checked.ensures.judged))

pub returns : goal.returns
returns c =
    let given = rw c.in_ok-checked.ensures.passed at c.fetch-read.ensures in
    accepted_answers _ (sym c.in_ok-checked.ensures.judged) (ap (λ (r : ℕ). cost r 0) given.0) given.1
