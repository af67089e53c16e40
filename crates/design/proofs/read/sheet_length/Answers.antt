-- `design::read::sheet_length` meets its contract. Assumes nothing.
use mathlib.Core.Path.{refl}
use Rattle.design.specs.Sheet.{sheet_length}
use Rattle.design.proofs.read.sheet_length.Goals as goal

pub returns : goal.returns
unfolding sheet_length
returns c = refl
