-- `design::rules::is_table` meets its contract: each test that is called is the one of the definition. Assumes nothing.
use mathlib.Core.Path.{◌≡◌, sym, ◌∙◌}
use mathlib.Core.Bool.{Bool, true, false}
use mathlib.Core.List.{List, [], ◌∷◌}
use Prim.Native.Nat.{ℕ, ◌*◌, ◌≤◌}
use native.Mathlib.Omega.{arith}
use lib.ListN.{length, get_or}
use Rattle.design.specs.Tuples.{Design, in_table, disks_below, none_twice, disks_even, pairs_even}
use Rattle.design.specs.Shelf.{zero_past}
use Rattle.design.specs.inner.Table.{is_table}
use Rattle.design.proofs.Tests.{joined, one_fails}
use Rattle.design.proofs.ShelfTests.{zero_past_part}
use Rattle.design.proofs.Used.{below_is, none_twice_is, disks_are, pairs_are}
use Rattle.design.proofs.rules.is_table.Goals as goal
use Rattle.design.proofs.rules.is_table.Goals.{Start, After-all_zero, After-disks_even, then-not-all_zero-via-then-not-all_zero, then-not-all_zero-via-else-not-all_zero+then-not-disks_below, then-not-all_zero-via-else-not-all_zero+else-not-disks_below+then-not-none_twice}

abbrev design : Start → Design
design s = let a = s.args in in_table a.v a.k a.b a.table.now

abbrev tests : Start → List Bool
tests s =
    let a = s.args in
    zero_past a.table.now (a.b * a.k)
    ∷ disks_below (design s)
    ∷ none_twice (design s)
    ∷ disks_even (design s) a.r
    ∷ pairs_even (design s) a.lambda
    ∷ []

-- an answer that is test i, and fails
refused : {x : Bool} (s : Start) (i : ℕ) → x ≡ get_or (tests s) i true → x ≡ false
    → false ≡ (let a = s.args in is_table a.table.now a.v a.k a.b a.r a.lambda)
unfolding joined
refused s i e t = sym (one_fails (tests s) i (sym e ∙ t))

room : (s : Start) → s.args.b * s.args.k ≤ length s.args.table.now
room s = omega (arith, s.told-table)

-- ---- each answer is its test
zero_is : (c : After-all_zero) → c.all_zero.result ≡ zero_past c.args.table.now (c.args.b * c.args.k)
zero_is c = c.all_zero.ensures ∙ rw c.split_at.ensures.back (zero_past_part _ _ c.told-table)

disks_is : (c : After-disks_even) → c.disks_even.result ≡ disks_even (design (goal.at.After-disks_even c).Start) c.args.r
disks_is c =
    let a = c.args in
    let h = room (goal.at.After-disks_even c).Start in
    disks_are a.v a.k a.b a.table.now c.split_at.result.0.now c.requires.0 h c.split_at.ensures.front c.requires.1 c.tally-counts.result c.tally-counts.ensures a.r c.disks_even.ensures

-- the three before them pass
module _ (c : After-disks_even) where
  zero : zero_past c.args.table.now (c.args.b * c.args.k) ≡ true
  zero = sym (zero_is (goal.at.After-disks_even c).After-all_zero) ∙ c.if-not-all_zero.false

  below : disks_below (design (goal.at.After-disks_even c).Start) ≡ true
  below =
      let h = room (goal.at.After-disks_even c).Start in
      sym (below_is c.args.v c.args.k c.args.b c.args.table.now c.split_at.result.0.now c.requires.0 h c.split_at.ensures.front c.disks_below.ensures) ∙ c.if-not-disks_below.false

  once : none_twice (design (goal.at.After-disks_even c).Start) ≡ true
  once =
      let h = room (goal.at.After-disks_even c).Start in
      sym (none_twice_is c.args.v c.args.k c.args.b c.args.table.now c.split_at.result.0.now c.requires.0 h c.split_at.ensures.front c.none_twice.ensures) ∙ c.if-not-none_twice.false

-- ---- the goals
pub returns-then-not-all_zero : goal.returns-then-not-all_zero
returns-then-not-all_zero c =
    let s = (goal.at.returns-then-not-all_zero c).Start in
    let a = c.args in
    elim c.then-not-all_zero.branch [
      | then-not-all_zero-via-then-not-all_zero w ↦ refused s 0 (zero_is (goal.at.returns-then-not-all_zero c).After-all_zero) w.if-not-all_zero.true
      | then-not-all_zero-via-else-not-all_zero+then-not-disks_below w ↦
          refused s 1 (below_is a.v a.k a.b a.table.now c.split_at.result.0.now c.requires.0 (room s) c.split_at.ensures.front w.disks_below.ensures)
          w.if-not-disks_below.true
      | then-not-all_zero-via-else-not-all_zero+else-not-disks_below+then-not-none_twice w ↦
          refused s 2 (none_twice_is a.v a.k a.b a.table.now c.split_at.result.0.now c.requires.0 (room s) c.split_at.ensures.front w.none_twice.ensures)
          w.if-not-none_twice.true
    ]

pub returns-then-disks_even : goal.returns-then-disks_even
returns-then-disks_even c =
    let d = (goal.at.returns-then-disks_even c).After-disks_even in
    let a = c.args in
    pairs_are a.v a.k a.b a.table.now c.split_at.result.0.now c.requires.0 (room (goal.at.returns-then-disks_even c).Start) c.split_at.ensures.front c.requires.1 c.tally-counts.result
    c.tally-counts.ensures a.lambda c.pairs_even.ensures
    ∙ rw (zero d, below d, once d, sym (disks_is d) ∙ c.if-disks_even.true)

pub returns-else-disks_even : goal.returns-else-disks_even
returns-else-disks_even c =
    c.if-disks_even.false ∙ refused (goal.at.returns-else-disks_even c).Start 3 (disks_is (goal.at.returns-else-disks_even c).After-disks_even) c.if-disks_even.false
