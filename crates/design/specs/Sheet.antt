-- Document 01, "The sheet": its fields, its rules by their numbers, and what opening it gives.
use Rattle.std.specs.Prelude.{◌≡◌, Bool, true, cond, ◌&&◌, List, [], ◌∷◌, ℕ, ◌+◌, ◌-◌, ◌*◌, ◌/◌, ◌≤◌, ◌<◌, min, leb, ltb, eqb, length, replicate, Result}
use Rattle.std.specs.Result.{result_unwrap_or}
use Rattle.fields.specs.Field.{bit_at, field}
use Rattle.design.specs.declared.Shelf.{Shelf}
use Rattle.design.specs.declared.Refusal.{Refusal}
use Rattle.design.specs.declared.Refusal.TheVariants.{ShortSheet, OtherEdition, OutsideLimits, OtherLength, DiskOutside, DiskTwice, FillingSet, DisksUneven, PairsUneven}
use Rattle.design.specs.Count.{list_from}
use Rattle.design.specs.Refusals.{Rule, first_broken, answered}
use Rattle.design.specs.Loss.{no_loss}
use Rattle.design.specs.Tuples.{Design, in_table, before, shared, disks_below, none_twice, disks_even, pairs_even}

-- ---- the fields

abbrev pub edition_of : List ℕ → ℕ
edition_of s = field s 0 4

abbrev pub v_of : List ℕ → ℕ
v_of s = field s 4 7

abbrev pub k_of : List ℕ → ℕ
k_of s = field s 11 5

abbrev pub b_of : List ℕ → ℕ
b_of s = field s 16 12

abbrev pub t_of : List ℕ → ℕ
t_of s = field s 28 16

abbrev pub u_of : List ℕ → ℕ
u_of s = field s 44 4

-- disk number i, tuple after tuple
abbrev pub number_of : List ℕ → ℕ → ℕ
number_of s i = field s (48 + 6 * i) 6

-- the length of a sheet of n disk numbers, in bytes
unfoldable pub sheet_length : ℕ → ℕ
sheet_length n = 6 + (6 * n + 7) / 8

-- the table's length
abbrev pub table_size : ℕ
table_size = 2048

-- n disk numbers, and zero past them
unfoldable pub table_of : List ℕ → ℕ → List ℕ
table_of s n = list_from 0 table_size (λ i. cond (ltb i n) (number_of s i) 0)

abbrev pub design_of : List ℕ → Design
design_of s = in_table (v_of s) (k_of s) (b_of s) (table_of s (b_of s * k_of s))

-- ---- the rules

-- 3
unfoldable pub within_limits : ℕ → ℕ → ℕ → ℕ → ℕ → Bool
within_limits v k b T u =
    leb 2 v && leb v 64 && leb 2 k && leb k (min v 16) && leb 1 b && leb (b * k) 2048 && leb 1 T && leb T 65535 && leb u 12

-- 7: the bits from the last disk number to the end of the sheet
unfoldable pub filling_zero : List ℕ → ℕ → Bool
filling_zero s n = eqb (field s (48 + 6 * n) (8 * length s - (48 + 6 * n))) 0

unfoldable pub sheet_rules : List ℕ → List Rule
sheet_rules s =
    record { refusal = ShortSheet; kept = leb 6 (length s) }
    ∷ record { refusal = OtherEdition; kept = eqb (edition_of s) 1 }
    ∷ record { refusal = OutsideLimits; kept = within_limits (v_of s) (k_of s) (b_of s) (t_of s) (u_of s) }
    ∷ record { refusal = OtherLength; kept = eqb (length s) (sheet_length (b_of s * k_of s)) }
    ∷ record { refusal = DiskOutside; kept = disks_below (design_of s) }
    ∷ record { refusal = DiskTwice; kept = none_twice (design_of s) }
    ∷ record { refusal = FillingSet; kept = filling_zero s (b_of s * k_of s) }
    ∷ record { refusal = DisksUneven; kept = disks_even (design_of s) (before (design_of s) (b_of s) 0) }
    ∷ record { refusal = PairsUneven; kept = pairs_even (design_of s) (shared (design_of s) (b_of s) 1 0) }
    ∷ []

-- ---- opening

-- every number zero, no disk lost
unfoldable pub empty_shelf : Shelf
empty_shelf = record { v = 0; k = 0; b = 0; T = 0; u = 0; r = 0; lambda = 0; table = replicate table_size 0; loss = no_loss }

unfoldable pub shelf_of : List ℕ → Shelf
shelf_of s =
    record {
      v = v_of s;
      k = k_of s;
      b = b_of s;
      T = t_of s;
      u = u_of s;
      r = before (design_of s) (b_of s) 0;
      lambda = shared (design_of s) (b_of s) 1 0;
      table = table_of s (b_of s * k_of s);
      loss = no_loss;
    }

-- of opening: a sheet that keeps its rules gives its shelf, any other its refusal
unfoldable pub opened : List ℕ → Result Shelf Refusal
opened s = answered (first_broken (sheet_rules s)) (shelf_of s)

-- the shelf of an answer of opening: the empty one of a refusal
abbrev pub shelf_or_empty : Result Shelf Refusal → Shelf
shelf_or_empty answer = result_unwrap_or answer empty_shelf

abbrev pub opened_shelf : List ℕ → Shelf
opened_shelf s = shelf_or_empty (opened s)

-- v, k, b, T and u are those of a sheet that keeps rules 1 to 4
pub record HeaderRead (s : List ℕ) (v k b T u : ℕ) : Type 0 where
  pub long : leb 6 (length s) ≡ true
  pub edition : eqb (edition_of s) 1 ≡ true
  pub limits : within_limits v k b T u ≡ true
  pub exact : length s ≡ sheet_length (b * k)
  pub v_is : v ≡ v_of s
  pub k_is : k ≡ k_of s
  pub b_is : b ≡ b_of s
  pub T_is : T ≡ t_of s
  pub u_is : u ≡ u_of s

-- ---- well formed, in the document's words

pub record Limits (v k b T u : ℕ) : Type 0 where
  pub v_least : 2 ≤ v
  pub v_most : v ≤ 64
  pub k_least : 2 ≤ k
  pub k_most : k ≤ min v 16
  pub b_least : 1 ≤ b
  pub places : b * k ≤ 2048
  pub T_least : 1 ≤ T
  pub T_most : T ≤ 65535
  pub u_most : u ≤ 12

pub record WellFormed (s : List ℕ) : Type 0 where
  pub header : 6 ≤ length s
  pub edition : edition_of s ≡ 1
  pub limits : Limits (v_of s) (k_of s) (b_of s) (t_of s) (u_of s)
  pub exact : length s ≡ sheet_length (b_of s * k_of s)
  pub below : (q p : ℕ) → q < b_of s → p < k_of s → (design_of s).disk q p < v_of s
  pub filling : (i : ℕ) → 48 + 6 * (b_of s * k_of s) ≤ i → i < 8 * length s → bit_at s i ≡ 0
