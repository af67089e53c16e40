-- `bit_of` meets its contract: the shift brings the bit to the lowest place. Assumes nothing.
use mathlib.Core.Path.{refl}
use Rattle.fields.proofs.bit_of.Goals as goal

pub returns : goal.returns
returns c = refl
