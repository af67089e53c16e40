-- What the code's steps do: a text that a pen writes into its buffer.
use Rattle.std.specs.Prelude.{◌≡◌, List, ◌++◌, ℕ, ◌+◌, ◌≤◌, length, take, drop}
use Rattle.std.specs.Borrow.{MutBor}
use Rattle.layout.specs.declared.pen.Pen.{Pen}

-- ---- a pen: the bytes that it has written, and those after them

abbrev pub written : Pen → List ℕ
written pen = take pen.at pen.out.now

abbrev pub rest : Pen → List ℕ
rest pen = drop pen.at pen.out.now

-- there is room for the text
pub record Fits (pen : Pen) (text : List ℕ) : Type 0 where
  pub room : pen.at + length text ≤ length pen.out.now

-- the text was written after what was there, into the same buffer
pub record Wrote (pen : Pen) (text : List ℕ) (after : Pen) : Type 0 where
  pub same : after.out.ghost_name ≡ pen.out.ghost_name
  pub moves : after.at ≡ pen.at + length text
  pub writes : written after ≡ written pen ++ text
  pub leaves : rest after ≡ drop (length text) (rest pen)

-- a pen at the start of a lent buffer
pub record Lent (buffer : MutBor (List ℕ)) (pen : Pen) : Type 0 where
  pub same : pen.out.ghost_name ≡ buffer.ghost_name
  pub first : pen.at ≡ 0
  pub as_lent : rest pen ≡ buffer.now

-- the first n bytes of a buffer are the text, and the others as they were
pub record Begins (buffer text : List ℕ) (n : ℕ) (after : List ℕ) : Type 0 where
  pub is_length : n ≡ length text
  pub leaves : after ≡ text ++ drop (length text) buffer
