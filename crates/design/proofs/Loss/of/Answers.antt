-- `design::Loss::of` meets its contract. Assumes nothing.
use mathlib.Core.Path.{refl}
use Rattle.design.specs.Loss.{disk_loss}
use Rattle.design.proofs.Loss.of.Goals as goal

pub returns : goal.returns
unfolding disk_loss
returns c = refl
