-- `design::rules::is_shelf` meets its contract: the limits, the tests on the table and the loss are all that number 10 tests. Assumes nothing.
use mathlib.Core.Path.{sym, ◌∙◌}
use mathlib.Core.Bool.{true≢false}
use Rattle.design.proofs.Tests.{limits}
use Rattle.design.proofs.ShelfTests.{shelf_parted}
use Rattle.design.proofs.rules.is_shelf.Goals as goal
use Rattle.design.proofs.rules.is_shelf.Goals.{then-within_limits, else-within_limits}

pub is_table-requires : goal.is_table-requires
is_table-requires c =
    let l = (limits _ _ _ _ _).0 (sym c.within_limits.ensures ∙ c.if-within_limits.true) in
    (l.k_least, l.v_most, l.places)

pub returns-then-is_table : goal.returns-then-is_table
returns-then-is_table c =
    elim c.if-within_limits.branch [
      | then-within_limits w ↦
          rw (shelf_parted c.args.shelf, sym c.within_limits.ensures ∙ w.if-within_limits.true, sym w.is_table.ensures ∙ sym w.value-is ∙ c.if-is_table.true)
          c.loss_below.ensures
      | else-within_limits w ↦ absurd (true≢false (sym c.if-is_table.true ∙ w.value-is ∙ w.if-within_limits.false))
    ]

pub returns-else-is_table : goal.returns-else-is_table
returns-else-is_table c =
    elim c.if-within_limits.branch [
      | then-within_limits w ↦
          c.if-is_table.false
          ∙ rw (shelf_parted c.args.shelf, sym c.within_limits.ensures ∙ w.if-within_limits.true, sym w.is_table.ensures ∙ sym w.value-is ∙ c.if-is_table.false)
      | else-within_limits w ↦ c.if-is_table.false ∙ rw (shelf_parted c.args.shelf, sym c.within_limits.ensures ∙ w.if-within_limits.false)
    ]
