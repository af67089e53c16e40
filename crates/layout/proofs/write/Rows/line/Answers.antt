-- `layout::write::Rows::line` meets its contract: number, parity place, data places and line end, one after another. The loop's invariant: the
-- first j data places are written. Assumes nothing.
use mathlib.Core.Path.{◌≡◌}
use mathlib.Core.List.{List, [], ◌∷◌, ◌++◌}
use Prim.Native.Nat.{ℕ, ◌-◌, ◌*◌, ◌<◌}
use native.Mathlib.Nat.{le-mul_of_pos_right}
use native.Mathlib.Omega.{arith}
use Rattle.design.proofs.ShelfTests.{shelf_parts}
use Rattle.placement.specs.Layout.{layout_in, parity_of}
use Rattle.placement.proofs.Stepping.{position_below}
use Rattle.layout.specs.Text.{line_end, decimal, joined}
use Rattle.layout.specs.inner.Steps.{Fits, Wrote}
use Rattle.layout.proofs.Puts.{wrote_nothing, wrote_then, fits_front, fits_rest}
use Rattle.layout.proofs.Words.{next_fits, wrote_next}
use Rattle.layout.proofs.Ranking.{ranked_word, ranked_data, line_is}
use Rattle.layout.proofs.Splitting.{Small, small}
use Rattle.layout.proofs.write.Rows.line.Goals as goal
use Rattle.layout.proofs.write.Rows.line.Goals.{After-loop-j, After-place, After-position_of, After-split_of-split, Start}

-- ---- the parts of the line by the ranks, and that they fit
abbrev upto_parity : Start → List ℕ
upto_parity c = decimal c.args.s ++ ranked_word c.args.self.now c.args.s (parity_of (layout_in c.args.self.now.checked.shelf.now) c.args.s)

abbrev data_words : Start → List ℕ
data_words c = joined (c.args.self.now.checked.shelf.now.k - 1) (ranked_data c.args.self.now c.args.s)

line_fits : (c : Start) → Fits c.args.pen.now (upto_parity c ++ data_words c ++ line_end ∷ [])
line_fits c = rw (line_is c.args.self.now c.args.s) c.requires.fits

data_fits : (c : Start) → Fits c.args.pen.now (upto_parity c ++ data_words c)
data_fits c = fits_front (upto_parity c ++ data_words c) (line_end ∷ []) (line_fits c)

parity_fits : (c : Start) → Fits c.args.pen.now (upto_parity c)
parity_fits c = fits_front (upto_parity c) (data_words c) (data_fits c)

-- ---- what the places are
numbers : (c : After-split_of-split) → Small c.args.self.now.checked.shelf.now.k c.args.self.now.checked.shelf.now.r c.split_of-split.result
numbers c = small c.args.self.now.checked.shelf.now c.args.self.now.checked.passed c.args.s c.requires.below c.split_of-split.ensures

position-lt : (c : After-position_of) → c.position_of.result < c.args.self.now.checked.shelf.now.k
position-lt c =
    let l = c.loop-j in
    omega (arith, c.position_of.ensures, c.loop-j-test.true, position_below c.split_of-split.result.parity l.j (c.args.self.now.checked.shelf.now.k - 1) c.loop-j-test.true)

-- ---- what is written
wrote_parity : (c : After-place) → Wrote c.args.pen.now (upto_parity (goal.at.After-place c).Start) c.place.new.pen
wrote_parity c = wrote_then c.number.ensures (rw c.split_of-split.ensures at c.place.ensures)

rest_fits : (c : After-place) → Fits c.place.new.pen (data_words (goal.at.After-place c).Start)
rest_fits c = fits_rest (data_fits (goal.at.After-place c).Start) (wrote_parity c)

wrote_data : (c : After-loop-j) → Wrote c.args.pen.now (upto_parity (goal.at.After-loop-j c).Start ++ data_words (goal.at.After-loop-j c).Start) c.loop-j.pen
wrote_data c =
    let over : c.loop-j.j ≡ c.args.self.now.checked.shelf.now.k - 1 = omega (arith, c.loop-j.auto, c.loop-j-test.false) in
    wrote_then (wrote_parity (goal.at.After-loop-j c).After-place) (rw over at c.loop-j.invariant)

-- ---- the goals
pub split_of-split-requires : goal.split_of-split-requires
split_of-split-requires c =
    let w = (shelf_parts c.args.self.now.checked.shelf.now c.args.self.now.checked.passed).limits in
    (omega (arith, w.k_least), w.b_least, omega (arith, w.places))

pub overflow_mul-row : goal.overflow_mul-row
overflow_mul-row c = omega (arith, (numbers (goal.at.overflow_mul-row c).After-split_of-split).row)

pub overflow_mul-base : goal.overflow_mul-base
overflow_mul-base c =
    let n = numbers (goal.at.overflow_mul-base c).After-split_of-split in
    let some : 0 < c.args.self.now.checked.shelf.now.k = omega (arith, n.parity) in
    omega (arith, n.tables, le-mul_of_pos_right (c.split_of-split.result.full_table * c.args.self.now.checked.shelf.now.r) some)

pub overflow_mul-base-2 : goal.overflow_mul-base-2
overflow_mul-base-2 c = omega (arith, (numbers (goal.at.overflow_mul-base-2 c).After-split_of-split).tables)

pub overflow_mul-base-3 : goal.overflow_mul-base-3
overflow_mul-base-3 c = omega (arith, (numbers (goal.at.overflow_mul-base-3 c).After-split_of-split).copies)

pub overflow_add-base : goal.overflow_add-base
overflow_add-base c =
    let n = numbers (goal.at.overflow_add-base c).After-split_of-split in
    omega (arith, n.tables, n.copies)

pub number-requires : goal.number-requires
number-requires c = fits_front (decimal c.args.s) _ (parity_fits (goal.at.number-requires c).Start)

pub overflow_add-row : goal.overflow_add-row
overflow_add-row c =
    let n = numbers (goal.at.overflow_add-row c).After-split_of-split in
    omega (arith, n.row, n.parity)

pub place-requires : goal.place-requires
place-requires c =
    let n = numbers (goal.at.place-requires c).After-split_of-split in
    record {
      fits = rw c.split_of-split.ensures (fits_rest (parity_fits (goal.at.place-requires c).Start) c.number.ensures);
      bounds = (omega (arith, n.tables, n.copies), omega (arith, n.row, n.parity));
    }

pub loop-j-init : goal.loop-j-init
unfolding joined
loop-j-init c = wrote_nothing

pub overflow_add-row-in-loop-j : goal.overflow_add-row-in-loop-j
overflow_add-row-in-loop-j c =
    omega (arith, (numbers (goal.at.overflow_add-row-in-loop-j c).After-split_of-split).row, position-lt (goal.at.overflow_add-row-in-loop-j c).After-position_of)

pub place-requires-in-loop-j : goal.place-requires-in-loop-j
place-requires-in-loop-j c =
    let n = numbers (goal.at.place-requires-in-loop-j c).After-split_of-split in
    let w = (goal.at.place-requires-in-loop-j c).After-position_of in
    let all = rest_fits (goal.at.place-requires-in-loop-j c).After-place in
    record {
      fits = rw (c.position_of.ensures, c.split_of-split.ensures) (next_fits _ c.loop-j.j c.loop-j.invariant c.loop-j-test.true all);
      bounds = (omega (arith, n.tables, n.copies), omega (arith, n.row, position-lt w));
    }

pub loop-j-preserved : goal.loop-j-preserved
loop-j-preserved c =
    wrote_next _ c.loop-j.j c.loop-j.invariant (rw (c.position_of.ensures, c.split_of-split.ensures) at c.place-in-loop-j.ensures)

pub line_end-requires : goal.line_end-requires
line_end-requires c = fits_rest (line_fits (goal.at.line_end-requires c).Start) (wrote_data (goal.at.line_end-requires c).After-loop-j)

pub returns : goal.returns
returns c = rw (line_is c.args.self.now c.args.s) at (wrote_then (wrote_data (goal.at.returns c).After-loop-j) c.line_end.ensures)
