-- `placement::unchecked::Checked::place_in` meets its contract: the entries of the tuples before are counted, and the offset is below the units of a disk.
-- Assumes nothing.
use mathlib.Core.Path.{◌≡◌, sym, ◌∙◌}
use Prim.Native.Nat.{ℕ, ◌+◌, ◌*◌, ◌^◌, ◌<◌}
use native.Mathlib.Nat.{le-mul_of_pos_right}
use native.Mathlib.Omega.{arith}
use lib.Seq.{length-take-le}
use Rattle.design.specs.Tuples.{before}
use Rattle.design.specs.Shelf.{design_in}
use Rattle.placement.specs.Layout.{place_in}
use Rattle.placement.proofs.Flat.{counted, times_before}
use Rattle.placement.proofs.Splits.{entry_fits, offset_fits}
use Rattle.placement.proofs.unchecked.Checked.place_in.Goals as goal
use Rattle.placement.proofs.unchecked.Checked.place_in.Goals.{After-times-before, Start}

entry : (s : Start) → s.args.at.tuple * s.args.self.shelf.now.k + s.args.position < 2048
entry s = entry_fits s.args.self.shelf.now s.args.self.passed s.args.at s.requires.0 s.args.position s.requires.1

abbrev disk : Start → ℕ
disk s = (design_in s.args.self.shelf.now).disk s.args.at.tuple s.args.position

tuples_before : (c : After-times-before) → c.times-before.result ≡ before (design_in c.args.self.shelf.now) c.args.at.tuple (disk (goal.at.After-times-before c).Start)
tuples_before c =
    c.times-before.ensures
    ∙ counted c.args.self.shelf.now.table _ (c.args.at.tuple * c.args.self.shelf.now.k) (omega (arith, entry (goal.at.After-times-before c).Start))
    ∙ times_before c.args.self.shelf.now c.args.self.passed c.args.at.tuple (disk (goal.at.After-times-before c).Start) (omega (arith, c.requires.0.tuple))

-- the offset of its full table's first unit
abbrev first : Start → ℕ
first s = s.args.at.full_table * s.args.self.shelf.now.r * s.args.self.shelf.now.k

offset : (c : After-times-before) → first (goal.at.After-times-before c).Start + c.args.at.copy * c.args.self.shelf.now.r + c.times-before.result < 2 ^ 27
unfolding place_in
offset c =
    omega (arith, tuples_before c, offset_fits c.args.self.shelf.now c.args.self.passed c.args.at c.requires.0 c.args.position c.requires.1)

-- ---- the goals
pub returns : goal.returns
unfolding place_in
returns c = rw (c.from.ensures, tuples_before (goal.at.returns c).After-times-before)

pub overflow_mul-first : goal.overflow_mul-first
overflow_mul-first c = omega (arith, entry (goal.at.overflow_mul-first c).Start)

pub overflow_add-disk : goal.overflow_add-disk
overflow_add-disk c = omega (arith, entry (goal.at.overflow_add-disk c).Start)

pub bounds-table-first : goal.bounds-table-first
bounds-table-first c = omega (arith, entry (goal.at.bounds-table-first c).Start)

pub slice_bounds-times-end : goal.slice_bounds-times-end
slice_bounds-times-end c = sym (length-take-le _ c.args.self.shelf.now.table (omega (arith, entry (goal.at.slice_bounds-times-end c).Start)))

pub overflow_mul-offset : goal.overflow_mul-offset
overflow_mul-offset c =
    let some : 0 < c.args.self.shelf.now.k = omega (arith, c.requires.1) in
    omega (arith, offset (goal.at.overflow_mul-offset c).After-times-before, le-mul_of_pos_right (c.args.at.full_table * c.args.self.shelf.now.r) some)

pub overflow_mul-offset-2 : goal.overflow_mul-offset-2
overflow_mul-offset-2 c = omega (arith, offset (goal.at.overflow_mul-offset-2 c).After-times-before)

pub overflow_mul-offset-3 : goal.overflow_mul-offset-3
overflow_mul-offset-3 c = omega (arith, offset (goal.at.overflow_mul-offset-3 c).After-times-before)

pub overflow_add-offset : goal.overflow_add-offset
overflow_add-offset c = omega (arith, offset (goal.at.overflow_add-offset c).After-times-before)

pub overflow_add-offset-2 : goal.overflow_add-offset-2
overflow_add-offset-2 c = omega (arith, offset (goal.at.overflow_add-offset-2 c).After-times-before)
