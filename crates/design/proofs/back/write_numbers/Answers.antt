-- `design::back::write_numbers` meets its contract. The loop's invariant: the numbers passed are packed from bit 48 on. Assumes nothing.
use mathlib.Core.Path.{refl}
use native.Mathlib.Omega.{arith}
use Rattle.fields.proofs.Laws.{is_field_iff}
use Rattle.design.specs.Sheet.{sheet_length}
use Rattle.design.specs.Shelf.{packed, numbers_in}
use Rattle.design.proofs.Packing.{number_put}
use Rattle.design.proofs.back.write_numbers.Goals as goal

pub loop-i-init : goal.loop-i-init
unfolding packed numbers_in
loop-i-init c = refl

pub put-requires : goal.put-requires
unfolding sheet_length
put-requires c =
    ((is_field_iff _ _ _).1 (omega (arith, c.loop-i.auto)), omega (arith, c.from.ensures, c.requires.below c.loop-i.i 0 c.loop-i-test.true))

pub loop-i-preserved : goal.loop-i-preserved
loop-i-preserved c =
    number_put _ _ _ _ c.loop-i.i c.loop-i-test.true c.loop-i.invariant (rw c.from.ensures at c.put.ensures)
