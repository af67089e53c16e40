-- `design::reader::number` meets its contract: the field is there, so it is found. Assumes nothing.
use mathlib.Core.Path.{◌≡◌, sym, ◌∙◌}
use Rattle.std.specs.Prelude.{Some}
use Rattle.fields.specs.Field.{field}
use Rattle.fields.proofs.Laws.{is_field_iff, found-value}
use Rattle.design.proofs.reader.number.Goals as goal
use Rattle.design.proofs.reader.number.Goals.{After-read}

found : (c : After-read) → c.read.result ≡ Some (field c.args.sheet.now c.args.at c.args.width)
found c = c.read.ensures ∙ found-value _ _ _ ((is_field_iff _ _ _).0 c.requires)

pub unwrap-requires : goal.unwrap-requires
unwrap-requires c = rw (found c)

pub returns : goal.returns
returns c =
    let args = c.args in
    let e : Some c.unwrap.result ≡ Some (field args.sheet.now args.at args.width) = sym c.unwrap.ensures ∙ found (goal.at.returns c).After-read in
    cc
