-- `layout::write::first` meets its contract. The loop's invariant: the numbers before that at the index are written. Assumes nothing.
use mathlib.Core.Path.{◌≡◌, ◌∙◌}
use mathlib.Core.List.{List, [], ◌∷◌, ◌++◌}
use Prim.Native.Nat.{ℕ, ◌*◌, ◌%◌, ◌^◌}
use native.Mathlib.Nat.{one-mul}
use native.Mathlib.Omega.{arith}
use lib.Pow.{shl_exact}
use Rattle.std.proofs.Common.{rules}
use Rattle.design.proofs.ShelfTests.{shelf_parts}
use Rattle.layout.specs.Text.{line_end, decimal, joined}
use Rattle.layout.specs.inner.Steps.{Fits, Wrote}
use Rattle.layout.proofs.Puts.{wrote_nothing, wrote_then, fits_front, fits_rest, lent_fits, begins}
use Rattle.layout.proofs.Words.{next_fits, wrote_next}
use Rattle.layout.proofs.FirstLine.{later_numbers, number_word, first_text, first_is, text_most}
use Rattle.layout.proofs.write.first.Goals as goal
use Rattle.layout.proofs.write.first.Goals.{After-loop-n, After-new-pen, After-number}

-- U, as the code has it
abbrev unit : After-new-pen → ℕ
unit c = 1 * 2 ^ c.args.checked.shelf.now.u % 18446744073709551616

unit_is : (c : After-new-pen) → unit c ≡ 2 ^ c.args.checked.shelf.now.u
unit_is c =
    let w = (shelf_parts c.args.checked.shelf.now c.args.checked.passed).limits in
    shl_exact {a = 1} 1 c.args.checked.shelf.now.u 64 (omega arith) (omega (arith, w.u_most)) ∙ one-mul _

abbrev word : After-new-pen → ℕ → List ℕ
word c = number_word (later_numbers c.args.checked.shelf.now (unit c))

all_fits : (c : After-new-pen) → Fits c.new-pen.result (first_text c.args.checked.shelf.now (unit c))
all_fits c = lent_fits c.new-pen.ensures (omega (arith, c.requires, text_most c.args.checked.shelf.now c.args.checked.passed (unit c) (unit_is c)))

later_fit : (c : After-number) → Fits c.number.new.self (joined 6 (word (goal.at.After-number c).After-new-pen) ++ line_end ∷ [])
later_fit c = fits_rest (all_fits (goal.at.After-number c).After-new-pen) c.number.ensures

words_fit : (c : After-number) → Fits c.number.new.self (joined 6 (word (goal.at.After-number c).After-new-pen))
words_fit c = fits_front _ (line_end ∷ []) (later_fit c)

-- what the loop leaves: the numbers after v, in the document's order
all-put : (c : After-loop-n) → Wrote c.number.new.self (joined 6 (word (goal.at.After-loop-n c).After-new-pen)) c.loop-n.pen
all-put c =
    let over : c.loop-n.n-index ≡ 6 = omega (arith, c.loop-n.auto, c.loop-n-test.false) in
    rw over at c.loop-n.invariant

pub number-requires : goal.number-requires
number-requires c = fits_front (decimal c.args.checked.shelf.now.v) _ (all_fits (goal.at.number-requires c).After-new-pen)

pub overflow_shl-n-items : goal.overflow_shl-n-items
overflow_shl-n-items c = omega (arith, (shelf_parts c.args.checked.shelf.now c.args.checked.passed).limits.u_most)

pub loop-n-init : goal.loop-n-init
unfolding joined
loop-n-init c = wrote_nothing

pub spaced-requires : goal.spaced-requires
spaced-requires c = next_fits _ c.loop-n.n-index c.loop-n.invariant c.loop-n-test.true (words_fit (goal.at.spaced-requires c).After-number)

pub loop-n-preserved : goal.loop-n-preserved
loop-n-preserved c = wrote_next _ c.loop-n.n-index c.loop-n.invariant c.spaced.ensures

pub line_end-requires : goal.line_end-requires
line_end-requires c = fits_rest (later_fit (goal.at.line_end-requires c).After-number) (all-put (goal.at.line_end-requires c).After-loop-n)

pub returns : goal.returns
returns c =
    let w = (goal.at.returns c).After-new-pen in
    let all : Wrote c.new-pen.result (first_text c.args.checked.shelf.now (unit w)) c.line_end.new.self =
    wrote_then c.number.ensures (wrote_then (all-put (goal.at.returns c).After-loop-n) c.line_end.ensures)
    in
    begins c.new-pen.ensures (rw (first_is c.args.checked.shelf.now (unit w) (unit_is w)) at all) (search rules)
