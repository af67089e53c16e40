-- `layout::write::Rows::lines` meets its contract. The loop's invariant: the lines of the stripes before s are written. Assumes nothing.
use mathlib.Core.Path.{◌≡◌}
use Prim.Native.Nat.{◌-◌}
use native.Mathlib.Omega.{arith}
use Rattle.std.proofs.Common.{rules}
use Rattle.placement.proofs.Bounds.{bounds}
use Rattle.layout.specs.inner.Steps.{Fits}
use Rattle.layout.proofs.Puts.{lent_fits, begins}
use Rattle.layout.proofs.Ranking.{ranked_lines}
use Rattle.layout.proofs.Lengths.{ranked_lines_most}
use Rattle.layout.proofs.Printing.{no_line, next_line_fits, wrote_line, printed_all}
use Rattle.layout.proofs.write.Rows.lines.Goals as goal
use Rattle.layout.proofs.write.Rows.lines.Goals.{After-new-pen}

all_fit : (c : After-new-pen) → Fits c.new-pen.result (ranked_lines c.args.self.now c.args.first c.args.n)
all_fit c = lent_fits c.new-pen.ensures (omega (arith, c.requires, ranked_lines_most c.args.self.now c.args.first c.args.n c.requires.0))

pub overflow_add-s-end : goal.overflow_add-s-end
overflow_add-s-end c = omega (arith, c.requires.0, (bounds c.args.self.now.checked.shelf.now c.args.self.now.checked.passed).stripes)

pub loop-s-init : goal.loop-s-init
loop-s-init c = no_line _ c.args.first

pub line-requires : goal.line-requires
line-requires c =
    let l = c.loop-s in
    record {
      fits = next_line_fits _ c.args.first l.s l.auto.s l.invariant c.args.n c.loop-s-test.true (all_fit (goal.at.line-requires c).After-new-pen);
      below = omega (arith, c.requires.0, c.loop-s-test.true);
    }

pub loop-s-preserved : goal.loop-s-preserved
loop-s-preserved c =
    let l = c.loop-s in
    wrote_line _ c.args.first l.s l.auto.s l.invariant c.line.ensures

pub returns : goal.returns
returns c =
    let l = c.loop-s in
    let over : l.s - c.args.first ≡ c.args.n = omega (arith, l.auto.s, l.auto.s-end (omega arith), c.loop-s-test.false) in
    begins c.new-pen.ensures (printed_all _ c.args.first (l.s - c.args.first) c.args.n l.invariant over) (search rules)
