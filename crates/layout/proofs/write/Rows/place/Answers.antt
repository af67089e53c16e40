-- `layout::write::Rows::place` meets its contract. Assumes nothing.
use mathlib.Core.List.{[], ◌∷◌}
use Prim.Native.Nat.{◌+◌}
use lib.ListN.{get_or}
use Rattle.layout.specs.inner.Steps.{Fits}
use Rattle.layout.specs.Text.{colon, decimal}
use Rattle.layout.proofs.Puts.{fits_front, fits_rest}
use Rattle.layout.proofs.Entries.{disk_fits, offset_fits, wrote_entry}
use Rattle.layout.proofs.write.Rows.place.Goals as goal
use Rattle.layout.proofs.write.Rows.place.Goals.{After-spaced}

-- after the disk
rest_fits : (c : After-spaced) → Fits c.spaced.new.self (colon ∷ decimal (c.args.base + get_or c.args.self.now.ranks c.args.entry 0))
rest_fits c = offset_fits c.args.self.now c.args.base c.args.entry c.from.ensures c.requires.fits c.spaced.ensures

pub spaced-requires : goal.spaced-requires
spaced-requires c = disk_fits c.args.self.now c.args.base c.args.entry c.from.ensures c.requires.fits

pub byte-requires : goal.byte-requires
byte-requires c = fits_front (colon ∷ []) _ (rest_fits (goal.at.byte-requires c).After-spaced)

pub number-requires : goal.number-requires
number-requires c = rw c.from-2.ensures (fits_rest {x = colon ∷ []} (rest_fits (goal.at.number-requires c).After-spaced) c.byte.ensures)

pub returns : goal.returns
returns c =
    wrote_entry c.args.self.now c.args.base c.args.entry c.from.ensures c.spaced.ensures c.byte.ensures
    c.from-2.ensures
    c.number.ensures
