-- The promises of the layout's calls.
use Rattle.std.specs.Prelude.{◌≡◌, List, [], ◌∷◌, ◌++◌, ℕ, ◌+◌, ◌*◌, leb, length, drop, Result, Ok, Err}
use Rattle.design.specs.declared.Shelf.{Shelf}
use Rattle.design.specs.declared.Refusal.{Refusal}
use Rattle.design.specs.declared.Refusal.TheVariants.{OtherBuffer}
use Rattle.design.specs.Refusals.{Rule, Verdict, number, first_broken, answered}
use Rattle.design.specs.Sheet.{opened}
use Rattle.design.specs.Shelf.{shelf_rule}
use Rattle.placement.specs.Layout.{layout_in, stripes}
use Rattle.placement.specs.Placed.{range_rule}
use Rattle.layout.specs.declared.Start.{Start}

-- ---- opening: the shelf and its stripes, or the refusal's number

unfoldable pub started_by : Result Shelf Refusal → Result Start ℕ
started_by (Ok h) = Ok (record { shelf = h; stripes = stripes (layout_in h) })
started_by (Err x) = Err (number x)

unfoldable pub started : List ℕ → Result Start ℕ
started s = started_by (opened s)

-- ---- writing a text into the first bytes of a buffer

-- the bytes that a buffer must have for each line: no line is longer
abbrev pub line_room : ℕ
line_room = 256

-- 13, of n lines
abbrev pub room_rule : ℕ → List ℕ → Rule
room_rule n buffer = record { refusal = OtherBuffer; kept = leb (n * line_room) (length buffer) }

unfoldable pub buffer_by : Verdict → List ℕ → List ℕ → List ℕ
buffer_by (Ok u) text buffer = text ++ drop (length text) buffer
buffer_by (Err x) text buffer = buffer

-- the text's length or the refusal, and the buffer after it
pub record Written (rules : List Rule) (text buffer : List ℕ) (answer : Result ℕ Refusal) (after : List ℕ) : Type 0 where
  pub answers : answer ≡ answered (first_broken rules) (length text)
  pub leaves : after ≡ buffer_by (first_broken rules) text buffer

-- ---- the rules of each call

unfoldable pub refused_rules : List ℕ → List Rule
refused_rules buffer = room_rule 1 buffer ∷ []

unfoldable pub first_rules : Shelf → List ℕ → List Rule
first_rules h buffer = shelf_rule h ∷ room_rule 1 buffer ∷ []

-- of n stripes from `first` on
unfoldable pub lines_rules : Shelf → ℕ → ℕ → List ℕ → List Rule
lines_rules h first n buffer = shelf_rule h ∷ range_rule (leb (first + n) (stripes (layout_in h))) ∷ room_rule n buffer ∷ []
