-- `design::Loss::none` meets its contract. Assumes nothing.
use mathlib.Core.Path.{refl}
use Rattle.design.specs.Loss.{no_loss}
use Rattle.design.proofs.Loss.none.Goals as goal

pub returns : goal.returns
unfolding no_loss
returns c = refl
