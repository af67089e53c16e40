-- `design::read::open` meets its contract: rules 1 to 4 by the header's fields, the others by `open_table`. Assumes nothing.
use borrow.Author.Tests.{le-leb, lt-leb, eq-eqb, ne_eqb}
use mathlib.Core.Path.{◌≡◌, sym, ap₂, ◌∙◌}
use mathlib.Core.Bool.{true}
use mathlib.Core.List.{List}
use Prim.Native.Nat.{ℕ, ◌*◌, ◌≤◌}
use lib.Dec.{leb, eqb}
use lib.ListN.{length}
use native.Mathlib.Omega.{arith}
use Rattle.design.specs.declared.reader.Header.{Header}
use Rattle.design.specs.Sheet.{sheet_length, Limits, edition_of, v_of, k_of, b_of, t_of, u_of, within_limits}
use Rattle.design.proofs.Tests.{limits}
use Rattle.design.proofs.Opening.{short, other_edition, outside_limits, other_length, limits_read}
use Rattle.design.proofs.read.open.Goals as goal
use Rattle.design.proofs.read.open.Goals.{After-within_limits, Else-not-within_limits}

pub returns-then-sheet-lt6 : goal.returns-then-sheet-lt6
returns-then-sheet-lt6 c = short _ (lt-leb _ _ c.if-sheet-lt6.true)

pub returns-then-header-ne1 : goal.returns-then-header-ne1
returns-then-header-ne1 c =
    other_edition _ (le-leb _ _ c.if-sheet-lt6.false) (ne_eqb _ _ (λ e. c.if-header-ne1.true (c.read_header-header.ensures.0 ∙ e)))

abbrev header : After-within_limits → Header
header c = c.read_header-header.result

abbrev sheet : After-within_limits → List ℕ
sheet c = c.args.sheet.now

-- it is long enough, and of the edition asked
long : (c : After-within_limits) → leb 6 (length (sheet c)) ≡ true
long c = let enough : 6 ≤ length (sheet c) = omega arith in le-leb _ _ enough

edition : (c : After-within_limits) → eqb (edition_of (sheet c)) 1 ≡ true
edition c = let one : edition_of (sheet c) ≡ 1 = omega (arith, c.read_header-header.ensures.0) in eq-eqb _ _ one

tested : (c : After-within_limits) → let s = sheet c in c.within_limits.result ≡ within_limits (v_of s) (k_of s) (b_of s) (t_of s) (u_of s)
tested c =
    let n = c.read_header-header.ensures in
    c.within_limits.ensures ∙ limits_read (sheet c) n.1 n.2 n.3 n.4 n.5

pub returns-then-not-within_limits : goal.returns-then-not-within_limits
returns-then-not-within_limits c =
    outside_limits _ (long (goal.at.returns-then-not-within_limits c).After-within_limits) (edition (goal.at.returns-then-not-within_limits c).After-within_limits) (sym (tested (goal.at.returns-then-not-within_limits c).After-within_limits) ∙ c.if-not-within_limits.true)

within : (c : Else-not-within_limits) → let h = header (goal.at.Else-not-within_limits c).After-within_limits in Limits h.v h.k h.b h.T h.u
within c = (limits _ _ _ _ _).0 (sym c.within_limits.ensures ∙ c.if-not-within_limits.false)

pub overflow_mul-header : goal.overflow_mul-header
overflow_mul-header c = omega (arith, (within (goal.at.overflow_mul-header c).Else-not-within_limits).places)

pub sheet_length-requires : goal.sheet_length-requires
sheet_length-requires c = (within (goal.at.sheet_length-requires c).Else-not-within_limits).places

pub returns-then-sheet-sheet_length : goal.returns-then-sheet-sheet_length
returns-then-sheet-sheet_length c =
    let h = c.read_header-header.ensures in
    other_length _ (long (goal.at.returns-then-sheet-sheet_length c).After-within_limits) (edition (goal.at.returns-then-sheet-sheet_length c).After-within_limits) (sym (tested (goal.at.returns-then-sheet-sheet_length c).After-within_limits) ∙ c.if-not-within_limits.false)
    (ne_eqb _ _ (λ q. c.if-sheet-sheet_length.true (q ∙ sym (c.sheet_length.ensures ∙ ap₂ (λ (b k : ℕ). sheet_length (b * k)) h.3 h.2))))

pub open_table-requires : goal.open_table-requires
open_table-requires c =
    let h = c.read_header-header.ensures in
    record {
      long = long (goal.at.open_table-requires c).After-within_limits;
      edition = edition (goal.at.open_table-requires c).After-within_limits;
      limits = sym c.within_limits.ensures ∙ c.if-not-within_limits.false;
      exact = c.if-sheet-sheet_length.false ∙ c.sheet_length.ensures;
      v_is = h.1;
      k_is = h.2;
      b_is = h.3;
      T_is = h.4;
      u_is = h.5;
    }
