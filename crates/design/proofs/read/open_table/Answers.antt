-- `design::read::open_table` meets its contract: each test of the code is the test of its rule, of the table that was read.
-- Assumes nothing.
use mathlib.Core.Path.{◌≡◌, sym, ap, ◌∙◌}
use mathlib.Core.Bool.{true}
use Prim.Native.Nat.{◌*◌}
use native.Mathlib.Omega.{arith}
use lib.Seq.{length-take-le}
use Rattle.design.specs.Tuples.{Design, before, shared, disks_below, none_twice, disks_even, pairs_even}
use Rattle.design.specs.Sheet.{Limits, filling_zero}
use Rattle.design.proofs.Tests.{limits}
use Rattle.design.proofs.Opening.{read_design, shelf-read, room, below_read, once-read, few_read, disks_read, pairs_read, r_read, lambda_read, below_side, disk_outside, disk_twice, filling_set, disks_uneven, pairs_uneven, accepted}
use Rattle.design.proofs.read.open_table.Goals as goal
use Rattle.design.proofs.read.open_table.Goals.{After-count_of-lambda, After-count_of-r, After-disks_below, After-disks_even, After-none_twice, After-pairs_even, Else-not-disks_below, Else-not-disks_even, Else-not-filling_zero, Else-not-none_twice, Start}

within : (c : Start) → Limits c.args.header.v c.args.header.k c.args.header.b c.args.header.T c.args.header.u
within c = (limits _ _ _ _ _).0 c.requires.limits

pub overflow_mul-n : goal.overflow_mul-n
overflow_mul-n c = omega (arith, within (goal.at.overflow_mul-n c).Start)

pub table_of-table-requires : goal.table_of-table-requires
table_of-table-requires c = ((within (goal.at.table_of-table-requires c).Start).places, c.requires.exact)

pub slice_bounds-table-end : goal.slice_bounds-table-end
slice_bounds-table-end c =
    let l = within (goal.at.slice_bounds-table-end c).Start in
    room _ c.args.header.v _ _ _ c.table_of-table.ensures l.k_least l.places

pub slice_bounds-disks-end : goal.slice_bounds-disks-end
slice_bounds-disks-end c =
    let l = within (goal.at.slice_bounds-disks-end c).Start in
    sym (length-take-le _ _ (room _ c.args.header.v _ _ _ c.table_of-table.ensures l.k_least l.places))

abbrev design : Start → Design
design c = read_design c.args.sheet.now c.args.header.v c.args.header.k c.args.header.b

below_tested : (c : After-disks_below) → disks_below (design (goal.at.After-disks_below c).Start) ≡ c.disks_below.result
below_tested c =
    let l = within (goal.at.After-disks_below c).Start in
    sym (below_read _ _ _ _ _ c.table_of-table.ensures l.k_least l.places c.disks_below.ensures)

pub returns-then-not-disks_below : goal.returns-then-not-disks_below
returns-then-not-disks_below c =
    disk_outside _ _ _ _ _ _ c.requires (below_tested (goal.at.returns-then-not-disks_below c).After-disks_below ∙ c.if-not-disks_below.true)

below : (c : Else-not-disks_below) → disks_below (design (goal.at.Else-not-disks_below c).Start) ≡ true
below c = below_tested (goal.at.Else-not-disks_below c).After-disks_below ∙ c.if-not-disks_below.false

pub none_twice-requires : goal.none_twice-requires
none_twice-requires c = omega (arith, (within (goal.at.none_twice-requires c).Start).k_least)

once_tested : (c : After-none_twice) → none_twice (design (goal.at.After-none_twice c).Start) ≡ c.none_twice.result
once_tested c =
    let l = within (goal.at.After-none_twice c).Start in
    sym (once-read _ _ _ _ _ c.table_of-table.ensures l.k_least l.places c.none_twice.ensures)

pub returns-then-not-none_twice : goal.returns-then-not-none_twice
returns-then-not-none_twice c =
    disk_twice _ _ _ _ _ _ c.requires (below (goal.at.returns-then-not-none_twice c).Else-not-disks_below) (once_tested (goal.at.returns-then-not-none_twice c).After-none_twice ∙ c.if-not-none_twice.true)

once : (c : Else-not-none_twice) → none_twice (design (goal.at.Else-not-none_twice c).Start) ≡ true
once c = once_tested (goal.at.Else-not-none_twice c).After-none_twice ∙ c.if-not-none_twice.false

pub filling_zero-requires : goal.filling_zero-requires
filling_zero-requires c =
    ((within (goal.at.filling_zero-requires c).Start).places, c.requires.exact)

pub returns-then-not-filling_zero : goal.returns-then-not-filling_zero
returns-then-not-filling_zero c =
    filling_set _ _ _ _ _ _ c.requires (below (goal.at.returns-then-not-filling_zero c).Else-not-disks_below) (once (goal.at.returns-then-not-filling_zero c).Else-not-none_twice) (sym c.filling_zero.ensures ∙ c.if-not-filling_zero.true)

zero : (c : Else-not-filling_zero) → let a = c.args in filling_zero a.sheet.now (a.header.b * a.header.k) ≡ true
zero c = sym c.filling_zero.ensures ∙ c.if-not-filling_zero.false

pub tally-counts-requires : goal.tally-counts-requires
tally-counts-requires c =
    let l = within (goal.at.tally-counts-requires c).Start in
    let t = c.table_of-table.ensures in
    record {
      few = few_read _ c.args.header.v _ _ _ t l.k_least l.places;
      below = below_side _ _ _ _ _ t l.k_least l.places l.v_most (below (goal.at.tally-counts-requires c).Else-not-disks_below);
      different = sym c.none_twice.ensures ∙ c.if-not-none_twice.false;
    }

r_counted : (c : After-count_of-r) → c.count_of-r.result ≡ (let D = design (goal.at.After-count_of-r c).Start in before D D.b 0)
r_counted c =
    let l = within (goal.at.After-count_of-r c).Start in
    c.count_of-r.ensures ∙ r_read _ _ _ _ _ c.table_of-table.ensures l.k_least l.places l.v_most c.tally-counts.result c.tally-counts.ensures

pub disks_even-requires : goal.disks_even-requires
disks_even-requires c = (within (goal.at.disks_even-requires c).Start).v_most

disks_tested : (c : After-disks_even) → (let D = design (goal.at.After-disks_even c).Start in disks_even D (before D D.b 0)) ≡ c.disks_even.result
disks_tested c =
    let l = within (goal.at.After-disks_even c).Start in
    ap (disks_even (design (goal.at.After-disks_even c).Start)) (sym (r_counted (goal.at.After-disks_even c).After-count_of-r))
    ∙ sym (disks_read _ _ _ _ _ c.table_of-table.ensures l.k_least l.places l.v_most c.tally-counts.result c.tally-counts.ensures _ c.disks_even.ensures)

pub returns-then-not-disks_even : goal.returns-then-not-disks_even
returns-then-not-disks_even c =
    disks_uneven _ _ _ _ _ _ c.requires (below (goal.at.returns-then-not-disks_even c).Else-not-disks_below) (once (goal.at.returns-then-not-disks_even c).Else-not-none_twice) (zero (goal.at.returns-then-not-disks_even c).Else-not-filling_zero) (disks_tested (goal.at.returns-then-not-disks_even c).After-disks_even ∙ c.if-not-disks_even.true)

even : (c : Else-not-disks_even) → let D = design (goal.at.Else-not-disks_even c).Start in disks_even D (before D D.b 0) ≡ true
even c = disks_tested (goal.at.Else-not-disks_even c).After-disks_even ∙ c.if-not-disks_even.false

lambda_counted : (c : After-count_of-lambda) → c.count_of-lambda.result ≡ (let D = design (goal.at.After-count_of-lambda c).Start in shared D D.b 1 0)
lambda_counted c =
    let l = within (goal.at.After-count_of-lambda c).Start in
    c.count_of-lambda.ensures ∙ lambda_read _ _ _ _ _ c.table_of-table.ensures l.k_least l.places l.v_most c.tally-counts.result c.tally-counts.ensures

pub pairs_even-requires : goal.pairs_even-requires
pairs_even-requires c = (within (goal.at.pairs_even-requires c).Start).v_most

pairs_tested : (c : After-pairs_even)
    → (let D = design (goal.at.After-pairs_even c).Start in pairs_even D (shared D D.b 1 0)) ≡ c.pairs_even.result
pairs_tested c =
    let l = within (goal.at.After-pairs_even c).Start in
    ap (pairs_even (design (goal.at.After-pairs_even c).Start)) (sym (lambda_counted (goal.at.After-pairs_even c).After-count_of-lambda))
    ∙ sym (pairs_read _ _ _ _ _ c.table_of-table.ensures l.k_least l.places l.v_most c.tally-counts.result c.tally-counts.ensures _ c.pairs_even.ensures)

pub returns-then-not-pairs_even : goal.returns-then-not-pairs_even
returns-then-not-pairs_even c =
    pairs_uneven _ _ _ _ _ _ c.requires (below (goal.at.returns-then-not-pairs_even c).Else-not-disks_below) (once (goal.at.returns-then-not-pairs_even c).Else-not-none_twice) (zero (goal.at.returns-then-not-pairs_even c).Else-not-filling_zero) (even (goal.at.returns-then-not-pairs_even c).Else-not-disks_even) (pairs_tested (goal.at.returns-then-not-pairs_even c).After-pairs_even ∙ c.if-not-pairs_even.true)

pub returns : goal.returns
returns c =
    rw (shelf-read _ _ _ _ _ _ c.requires c.table_of-table.ensures (r_counted (goal.at.returns c).After-count_of-r) (lambda_counted (goal.at.returns c).After-count_of-lambda) c.none.ensures)
    (accepted _ _ _ _ _ _ c.requires (below (goal.at.returns c).Else-not-disks_below) (once (goal.at.returns c).Else-not-none_twice) (zero (goal.at.returns c).Else-not-filling_zero) (even (goal.at.returns c).Else-not-disks_even) (pairs_tested (goal.at.returns c).After-pairs_even ∙ c.if-not-pairs_even.false))
