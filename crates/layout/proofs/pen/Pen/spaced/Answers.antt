-- `layout::pen::Pen::spaced` meets its contract. Assumes nothing.
use mathlib.Core.List.{[], ◌∷◌}
use Rattle.layout.specs.Text.{space}
use Rattle.layout.proofs.Puts.{wrote_then, fits_rest}
use Rattle.layout.proofs.pen.Pen.spaced.Goals as goal

pub number-requires : goal.number-requires
number-requires c = fits_rest {x = _ ∷ []} (record { room = c.requires.room }) c.byte.ensures

pub returns : goal.returns
returns c = wrote_then {x = space ∷ []} c.byte.ensures c.number.ensures
