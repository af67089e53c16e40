-- `layout::pen::Pen::byte` meets its contract. Assumes nothing.
use mathlib.Core.Path.{refl, sym, ◌∙◌}
use Prim.Native.Nat.{◌+◌}
use native.Mathlib.Omega.{arith}
use lib.Seq.{drop-set-lt, drop-drop}
use Rattle.std.proofs.lemmas.List.{take_more_set}
use Rattle.layout.proofs.pen.Pen.byte.Goals as goal

pub returns : goal.returns
returns c =
    let a = c.args in
    let pen = a.self.now in
    record {
      same = refl;
      moves = refl;
      writes = take_more_set pen.out.now pen.at a.byte (omega (arith, c.requires.room));
      leaves = drop-set-lt (pen.at + 1) pen.out.now pen.at a.byte (omega arith) ∙ sym (drop-drop 1 pen.at pen.out.now);
    }
