-- `design::Shelf::or_empty` meets its contract. Assumes nothing.
use mathlib.Core.Path.{ap, ◌∙◌}
use Rattle.std.specs.Result.{result_unwrap_or}
use Rattle.design.proofs.Shelf.or_empty.Goals as goal

pub returns : goal.returns
returns c = c.unwrap_or.ensures ∙ ap (result_unwrap_or c.args.opened) c.empty.ensures
