-- `layout::open` meets its contract: it answers as opening does. Assumes nothing.
use mathlib.Core.Path.{◌≡◌, sym, ap, ◌∙◌}
use Rattle.std.specs.Prelude.{Ok}
use Rattle.design.specs.Refusals.{verdict, number_given}
use Rattle.design.specs.Shelf.{is_shelf}
use Rattle.design.specs.Sheet.{opened, shelf_or_empty}
use Rattle.design.proofs.RoundTrip.{opened_is_shelf}
use Rattle.layout.proofs.Opening.{started_accepted, started_refused}
use Rattle.layout.proofs.open.Goals as goal
use Rattle.layout.proofs.open.Goals.{In-Ok}

pub returns-in_default : goal.returns-in_default
returns-in_default c =
    started_refused c.args.sheet.now (sym c.open-opened.ensures ∙ c.in_default.is) (c.number_given.ensures ∙ ap number_given c.open-opened.ensures)

accepted : (c : In-Ok) → opened c.args.sheet.now ≡ Ok c.in-Ok.shelf
accepted c = sym c.open-opened.ensures ∙ c.in-Ok.is

pub invariant_of-stripes : goal.invariant_of-stripes
invariant_of-stripes c =
    let e = accepted (goal.at.invariant_of-stripes c).In-Ok in
    record { passed = sym (ap is_shelf (ap shelf_or_empty e)) ∙ opened_is_shelf c.args.sheet.now (ap verdict e) }

pub returns : goal.returns
returns c = started_accepted c.args.sheet.now (accepted (goal.at.returns c).In-Ok) c.stripes-stripes.ensures
