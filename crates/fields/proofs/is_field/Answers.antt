-- `is_field` meets its contract: the last byte that the field reaches is inside just when its last bit is. Assumes nothing.
use borrow.Author.Tests.{le-leb, lt-leb}
use mathlib.Core.Path.{◌≡◌, sym, ◌∙◌}
use native.Mathlib.Omega.{arith}
use native.Mathlib.Decide.{dec_le}
use Prim.Native.Nat.{ℕ, ◌+◌, ◌*◌, ◌/◌, ◌%◌, ◌≤◌}
use lib.Dec.{leb}
use lib.ListN.{length}
use Rattle.fields.specs.Field.{is_field}
use Rattle.fields.proofs.is_field.Goals as goal

inside : (at w n : ℕ) → leb (at / 8 + (at % 8 + w + 7) / 8) n ≡ leb (at + w) (8 * n)
inside at w n = go (dec_le (at + w) (8 * n))
  where
    go : Dec (at + w ≤ 8 * n) → leb (at / 8 + (at % 8 + w + 7) / 8) n ≡ leb (at + w) (8 * n)
    go (yes h) = le-leb (at / 8 + (at % 8 + w + 7) / 8) n (omega arith) ∙ sym (le-leb (at + w) (8 * n) h)
    go (no h) = lt-leb (at / 8 + (at % 8 + w + 7) / 8) n (omega arith) ∙ sym (lt-leb (at + w) (8 * n) (omega arith))

pub returns-then-width-lt1 : goal.returns-then-width-lt1
unfolding is_field
returns-then-width-lt1 c = rw (lt-leb 1 c.args.width c.if-width-lt1.true)

pub returns-then-width-gt32 : goal.returns-then-width-gt32
unfolding is_field
returns-then-width-gt32 c =
    let width = c.args.width in
    rw (le-leb 1 width c.if-width-lt1.false, lt-leb width 32 c.if-width-gt32.true)

pub returns : goal.returns
unfolding is_field
returns c =
    let args = c.args in
    rw (le-leb 1 args.width c.if-width-lt1.false, le-leb args.width 32 c.if-width-gt32.false) (inside args.at args.width (length args.bytes.now))
