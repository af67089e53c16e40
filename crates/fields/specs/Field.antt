-- A bit field, most significant bit first (document 01, "The sheet"): which bits it has, and what reading and writing it do.
use Rattle.std.specs.Prelude.{◌≡◌, Bool, cond, ◌&&◌, List, ℕ, zero, suc, ◌+◌, ◌-◌, ◌*◌, ◌/◌, ◌%◌, ◌^◌, leb, ltb, length, get_or, set, Option, Some, None, Result, Ok, Err, ⊤}
use Rattle.fields.specs.declared.NoField.{NoField}

-- bit i of the bytes; bit 0 is the most significant of the first byte
unfoldable pub bit_at : List ℕ → ℕ → ℕ
bit_at bytes i = get_or bytes (i / 8) 0 / 2 ^ (7 - i % 8) % 2

-- the number that the `width` bits from `at` on spell
unfoldable pub field : List ℕ → ℕ → ℕ → ℕ
field bytes at zero = 0
field bytes at (suc width) = 2 * field bytes at width + bit_at bytes (at + width)

-- the bytes with y for bit i
unfoldable pub with_bit : List ℕ → ℕ → ℕ → List ℕ
with_bit bytes i y = set bytes (i / 8) (get_or bytes (i / 8) 0 - bit_at bytes i * 2 ^ (7 - i % 8) + y * 2 ^ (7 - i % 8))

-- the bytes with x in the `width` bits from `at` on
unfoldable pub with_field : List ℕ → ℕ → ℕ → ℕ → List ℕ
with_field bytes at zero x = bytes
with_field bytes at (suc width) x = with_bit (with_field bytes at width (x / 2)) (at + width) (x % 2)

-- a field has 1 to 32 bits, all of them inside the bytes
unfoldable pub is_field : List ℕ → ℕ → ℕ → Bool
is_field bytes at width = leb 1 width && leb width 32 && leb (at + width) (8 * length bytes)

-- ---- the promises

-- of reading
unfoldable pub found : List ℕ → ℕ → ℕ → Option ℕ
found bytes at width = cond (is_field bytes at width) (Some (field bytes at width)) None

-- a field that can hold x
unfoldable pub takes : List ℕ → ℕ → ℕ → ℕ → Bool
takes bytes at width x = is_field bytes at width && ltb x (2 ^ width)

-- of writing: the answer, and the bytes after it
pub record Wrote (bytes : List ℕ) (at width x : ℕ) (answer : Result ⊤ NoField) (after : List ℕ) : Type 0 where
  pub answers : answer ≡ cond (takes bytes at width x) (Ok tt) (Err record {})
  pub leaves : after ≡ cond (takes bytes at width x) (with_field bytes at width x) bytes
