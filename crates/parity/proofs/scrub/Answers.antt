-- `parity::scrub` meets its contract: the count is as the verdict says. Assumes nothing.
use mathlib.Core.Path.{sym, ap}
use Rattle.std.specs.Prelude.{Ok}
use Rattle.design.specs.Refusals.{answered}
use Rattle.parity.specs.Calls.{scrubbed}
use Rattle.parity.proofs.Accepted.{whole_accepted}
use Rattle.design.proofs.Refused.{handed_err}
use Rattle.parity.proofs.scrub.Goals as goal

pub returns-in_err-checked : goal.returns-in_err-checked
unfolding scrubbed answered
returns-in_err-checked c = rw (sym c.in_err-checked.ensures.judged) (handed_err _ c.from_residual.ensures)

pub count_wrong-requires : goal.count_wrong-requires
count_wrong-requires c =
    let a = c.args in
    rw c.in_ok-checked.ensures.passed ((whole_accepted a.shelf a.image.now).0 (sym c.in_ok-checked.ensures.judged)).stored.size

pub returns : goal.returns
unfolding scrubbed answered
returns c = rw (sym c.in_ok-checked.ensures.judged) (ap Ok (rw c.in_ok-checked.ensures.passed at c.count_wrong.ensures))
