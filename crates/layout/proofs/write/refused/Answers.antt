-- `layout::write::refused` meets its contract. Assumes nothing.
use mathlib.Core.List.{[], ◌∷◌, ◌++◌}
use native.Mathlib.Omega.{arith}
use Rattle.std.proofs.Common.{rules}
use Rattle.layout.specs.Text.{line_end, decimal, spaced, refused_word, refused_line}
use Rattle.layout.specs.inner.Steps.{Fits, Wrote}
use Rattle.layout.proofs.Puts.{wrote_then, fits_front, fits_rest, lent_fits, begins}
use Rattle.layout.proofs.Lengths.{refused_most}
use Rattle.layout.proofs.write.refused.Goals as goal
use Rattle.layout.proofs.write.refused.Goals.{After-new-pen, After-spaced}

all_fits : (c : After-new-pen) → Fits c.new-pen.result (refused_line c.args.number)
all_fits c = lent_fits c.new-pen.ensures (omega (arith, c.requires, refused_most c.args.number (omega arith)))

number_fits : (c : After-new-pen) → Fits c.new-pen.result (refused_word ++ spaced (decimal c.args.number))
unfolding refused_line
number_fits c = fits_front (refused_word ++ spaced (decimal c.args.number)) (line_end ∷ []) (all_fits c)

wrote_number : (c : After-spaced) → Wrote c.new-pen.result (refused_word ++ spaced (decimal c.args.number)) c.spaced.new.self
wrote_number c = wrote_then c.bytes.ensures c.spaced.ensures

pub bytes-requires : goal.bytes-requires
bytes-requires c = fits_front refused_word (spaced (decimal c.args.number)) (number_fits (goal.at.bytes-requires c).After-new-pen)

pub spaced-requires : goal.spaced-requires
spaced-requires c = fits_rest (number_fits (goal.at.spaced-requires c).After-new-pen) c.bytes.ensures

pub line_end-requires : goal.line_end-requires
unfolding refused_line
line_end-requires c = fits_rest (all_fits (goal.at.line_end-requires c).After-new-pen) (wrote_number (goal.at.line_end-requires c).After-spaced)

pub returns : goal.returns
unfolding refused_line
returns c = begins c.new-pen.ensures (wrote_then (wrote_number (goal.at.returns c).After-spaced) c.line_end.ensures) (search rules)
