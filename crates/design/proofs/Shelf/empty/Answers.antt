-- `design::Shelf::empty` meets its contract. Assumes nothing.
use Rattle.design.specs.Sheet.{empty_shelf}
use Rattle.design.proofs.Shelf.empty.Goals as goal

pub returns : goal.returns
unfolding empty_shelf
returns c = rw c.none-loss.ensures
