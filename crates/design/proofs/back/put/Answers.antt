-- `design::back::put` meets its contract: the field takes the value. Assumes nothing.
use mathlib.Core.Path.{◌≡◌}
use Rattle.std.specs.Prelude.{Ok}
use Rattle.fields.specs.Field.{with_field}
use Rattle.fields.proofs.Laws.{is_field_iff, wrote_done}
use Rattle.design.proofs.back.put.Goals as goal
use Rattle.design.proofs.back.put.Goals.{After-write}

done : (c : After-write) → (c.write.result ≡ Ok tt) × (c.write.new.bytes ≡ with_field c.args.sheet.now c.args.at c.args.width c.args.value)
done c = wrote_done _ _ _ _ _ _ ((is_field_iff _ _ _).0 c.requires.0) c.requires.1 c.write.ensures

pub unwrap-requires : goal.unwrap-requires
unwrap-requires c = rw (done (goal.at.unwrap-requires c).After-write).0

pub returns : goal.returns
returns c = (done (goal.at.returns c).After-write).1
