-- `design::read::table_of` meets its contract. The loop's invariant: the entries passed are the sheet's numbers. Assumes nothing.
use mathlib.Core.Path.{◌≡◌, ◌∙◌}
use mathlib.Core.Logic.{◌≢◌}
use Prim.Native.Nat.{ℕ, ◌<◌}
use native.Mathlib.Omega.{arith}
use lib.ListN.{length, replicate, length-set, length-replicate}
use lib.Seq.{length-take-le, get_or-set_same, get_or-set_other}
use borrow.Author.Count.{below_more}
use Rattle.fields.proofs.Laws.{is_field_iff}
use Rattle.design.specs.Sheet.{sheet_length}
use Rattle.design.proofs.Reading.{number_lt, read_table}
use Rattle.design.proofs.read.table_of.Goals as goal

pub loop-i-init : goal.loop-i-init
loop-i-init c =
    let long : length {A = ℕ} (replicate 2048 0) ≡ 2048 = length-replicate {A = ℕ} 2048 0 in
    (length-take-le {A = ℕ} c.args.n (replicate 2048 0) (omega arith), λ j l. absurd (omega arith))

pub number-requires : goal.number-requires
unfolding sheet_length
number-requires c = (is_field_iff _ _ _).1 (omega arith)

pub overflow_cast-entry : goal.overflow_cast-entry
overflow_cast-entry c = omega (arith, number_lt _ _ _ c.number.ensures)

pub loop-i-preserved : goal.loop-i-preserved
loop-i-preserved c =
    let l = c.loop-i in
    let long : length l.entry-items ≡ c.args.n = l.invariant.0 in
    let h : l.i < length l.entry-items = omega arith in (
      simp length-set long,
      below_more _ _
          (λ j m. let ne : j ≢ l.i = omega arith in get_or-set_other l.entry-items l.i j _ 0 ne ∙ l.invariant.1 j m)
          (get_or-set_same l.entry-items l.i _ 0 h ∙ c.number.ensures),
    )

pub returns : goal.returns
returns c =
    let l = c.loop-i in
    read_table c.args.sheet.now l.entry-items c.args.n l.invariant.0 c.requires.0 (λ j m. l.invariant.1 j (omega arith))
