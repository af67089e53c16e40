-- Document 01, "The shelf value and the calls": which shelf values a call takes (number 10), and writing one back.
use Rattle.std.specs.Prelude.{◌≡◌, Bool, ◌&&◌, ◌||◌, List, [], ◌∷◌, ◌++◌, map, ℕ, ◌+◌, ◌*◌, leb, ltb, eqb, length, get_or, take, drop, replicate, Result, Ok, Err}
use Rattle.fields.specs.Field.{with_field}
use Rattle.design.specs.declared.Shelf.{Shelf}
use Rattle.design.specs.declared.Refusal.{Refusal}
use Rattle.design.specs.declared.Refusal.TheVariants.{NotAShelf, OtherBuffer}
use Rattle.design.specs.Count.{every}
use Rattle.design.specs.Refusals.{Rule, Verdict, first_broken, answered}
use Rattle.design.specs.Tuples.{Design, in_table, disks_below, none_twice, disks_even, pairs_even}
use Rattle.design.specs.Loss.{loss_below}
use Rattle.design.specs.Sheet.{within_limits, sheet_length, table_size}

-- ---- number 10

abbrev pub design_in : Shelf → Design
design_in h = in_table h.v h.k h.b h.table

unfoldable pub zero_past : List ℕ → ℕ → Bool
zero_past table n = every table_size (λ i. ltb i n || eqb (get_or table i 0) 0)

-- one that an accepted opening can give, a lost disk below v apart
unfoldable pub is_shelf : Shelf → Bool
is_shelf h =
    within_limits h.v h.k h.b h.T h.u
    && zero_past h.table (h.b * h.k)
    && disks_below (design_in h)
    && none_twice (design_in h)
    && disks_even (design_in h) h.r
    && pairs_even (design_in h) h.lambda
    && loss_below h.loss h.v

abbrev pub shelf_rule : Shelf → Rule
shelf_rule h = record { refusal = NotAShelf; kept = is_shelf h }

-- ---- writing back

pub record Piece : Type 0 where
  pub width : ℕ
  pub value : ℕ

-- the pieces one after another, from bit `at` on
unfoldable pub packed : List ℕ → ℕ → List Piece → List ℕ
packed bytes at [] = bytes
packed bytes at (x ∷ pieces) = packed (with_field bytes at x.width x.value) (at + x.width) pieces

unfoldable pub header_in : Shelf → List Piece
header_in h =
    record { width = 4; value = 1 }
    ∷ record { width = 7; value = h.v }
    ∷ record { width = 5; value = h.k }
    ∷ record { width = 12; value = h.b }
    ∷ record { width = 16; value = h.T }
    ∷ record { width = 4; value = h.u }
    ∷ []

unfoldable pub numbers_in : List ℕ → List Piece
numbers_in disks = map (λ d. record { width = 6; value = d }) disks

unfoldable pub sheet_in : Shelf → List ℕ
sheet_in h =
    packed (replicate (sheet_length (h.b * h.k)) 0) 0 (header_in h ++ numbers_in (take (h.b * h.k) h.table))

unfoldable pub back_rules : Shelf → List ℕ → List Rule
back_rules h buffer =
    shelf_rule h ∷ record { refusal = OtherBuffer; kept = leb (sheet_length (h.b * h.k)) (length buffer) } ∷ []

unfoldable pub back_buffer : Verdict → Shelf → List ℕ → List ℕ
back_buffer (Ok u) h buffer = sheet_in h ++ drop (sheet_length (h.b * h.k)) buffer
back_buffer (Err x) h buffer = buffer

-- of writing back: the sheet's length or the refusal, and the buffer after it
pub record WroteBack (h : Shelf) (buffer : List ℕ) (answer : Result ℕ Refusal) (after : List ℕ) : Type 0 where
  pub answers : answer ≡ answered (first_broken (back_rules h buffer)) (sheet_length (h.b * h.k))
  pub leaves : after ≡ back_buffer (first_broken (back_rules h buffer)) h buffer
