-- `design::read::filling_zero` meets its contract: the filling is what is left of the last byte. Assumes nothing.
use native.Mathlib.Omega.{arith}
use Rattle.fields.specs.Field.{field}
use Rattle.fields.proofs.Laws.{is_field_iff}
use Rattle.design.specs.Sheet.{sheet_length, filling_zero}
use Rattle.design.proofs.read.filling_zero.Goals as goal

pub overflow_mul-width : goal.overflow_mul-width
unfolding sheet_length
overflow_mul-width c = omega arith

pub overflow_sub-width : goal.overflow_sub-width
unfolding sheet_length
overflow_sub-width c = omega arith

pub returns-then-width-eq0 : goal.returns-then-width-eq0
unfolding filling_zero field
returns-then-width-eq0 c = rw c.if-width-eq0.true

pub number-requires : goal.number-requires
unfolding sheet_length
number-requires c = (is_field_iff _ _ _).1 (omega arith)

pub returns-else-width-eq0 : goal.returns-else-width-eq0
unfolding filling_zero
returns-else-width-eq0 c = rw c.number.ensures
