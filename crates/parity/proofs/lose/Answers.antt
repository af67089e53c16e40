-- `parity::lose` meets its contract: the shelf is as the verdict says. Assumes nothing.
use mathlib.Core.Path.{sym, ap, ◌∙◌}
use native.Mathlib.Omega.{arith}
use Rattle.std.specs.Prelude.{Ok}
use Rattle.design.specs.declared.Loss.{Loss}
use Rattle.design.specs.Loss.{with_loss}
use Rattle.design.specs.Refusals.{answered}
use Rattle.design.proofs.ShelfTests.{shelf_parts}
use Rattle.parity.specs.Calls.{lost}
use Rattle.parity.proofs.Accepted.{lose_accepted}
use Rattle.design.proofs.Refused.{handed_err}
use Rattle.parity.proofs.lose.Goals as goal

pub returns-in_err-of_lose : goal.returns-in_err-of_lose
unfolding lost answered
returns-in_err-of_lose c = rw (sym c.of_lose.ensures ∙ c.in_err-of_lose.was) (handed_err _ c.from_residual.ensures)

-- an accepted disk is below v, so its number fits a byte
pub overflow_cast-disk : goal.overflow_cast-disk
overflow_cast-disk c =
    let w = (lose_accepted _ _).0 (sym c.of_lose.ensures ∙ c.in_ok-of_lose.was) in
    omega (arith, w.disk, (shelf_parts _ w.shelf).limits.v_most)

pub returns : goal.returns
unfolding lost answered
returns c = rw (sym c.of_lose.ensures ∙ c.in_ok-of_lose.was) (ap (λ (l : Loss). Ok (with_loss c.args.shelf l)) c.of.ensures)
