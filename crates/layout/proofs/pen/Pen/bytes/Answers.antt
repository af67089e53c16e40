-- `layout::pen::Pen::bytes` meets its contract. Assumes nothing.
use mathlib.Core.Path.{refl, sym, ap, ◌∙◌}
use mathlib.Core.List.{◌++◌}
use Prim.Native.Nat.{◌+◌, ◌-◌}
use native.Mathlib.Omega.{arith}
use lib.ListN.{length, take}
use lib.Seq.{drop-drop}
use Rattle.std.proofs.lemmas.Slice.{take-put_mid, drop-put_mid}
use Rattle.layout.proofs.pen.Pen.bytes.Goals as goal

pub returns : goal.returns
returns c =
    let a = c.args in
    let pen = a.self.now in
    let n = length a.bytes.now in
    let is = c.copy_from_slice.ensures.after in
    record {
      same = refl;
      moves = refl;
      writes =
          take-put_mid pen.at (pen.at + n - pen.at) pen.out.now c.copy_from_slice.new.self (pen.at + n) (omega (arith, ap length is)) (omega (arith, c.requires.room))
          ∙ ap (λ l. take pen.at pen.out.now ++ l) is;
      leaves =
          drop-put_mid pen.at (pen.at + n - pen.at) pen.out.now c.copy_from_slice.new.self (pen.at + n) (omega arith) (omega (arith, c.requires.room)) (omega (arith, ap length is))
          ∙ sym (drop-drop n pen.at pen.out.now);
    }
