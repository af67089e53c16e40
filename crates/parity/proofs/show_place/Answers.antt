-- `parity::show_place` meets its contract: the part handed out is as the verdict says. Assumes nothing.
use mathlib.Core.Path.{sym, ap, ◌∙◌}
use Rattle.design.specs.Refusals.{verdict}
use Rattle.parity.specs.Calls.{place_shown}
use Rattle.parity.proofs.Accepted.{show_place_accepted}
use Rattle.parity.proofs.By.{by_accepted, by_refused}
use Rattle.parity.proofs.show_place.Goals as goal

pub returns-in_default : goal.returns-in_default
unfolding place_shown
returns-in_default c = sym (by_refused _ _ (sym c.of_place.ensures.judged ∙ ap verdict c.in_default.is))

pub part-requires : goal.part-requires
part-requires c =
    let image = c.args.image.now in
    let w = (show_place_accepted _ image _ _).0 (sym c.in-Ok.ensures.judged) in
    rw c.in-Ok.ensures.passed (record { size = w.stored.size; place = (w.disk, w.offset) })

pub returns : goal.returns
unfolding place_shown
returns c = (rw c.in-Ok.ensures.passed at c.part.ensures) ∙ sym (by_accepted _ _ (sym c.in-Ok.ensures.judged))
