-- Numbers in lent bytes: four bytes each, the most significant first, as in a sheet.
use Rattle.std.specs.Prelude.{List, [], ◌∷◌, ℕ, ◌+◌, ◌*◌, ◌/◌, ◌%◌, get_or, set}

-- number i of the bytes
unfoldable pub number_at : List ℕ → ℕ → ℕ
number_at bytes i = get_or bytes (4 * i) 0 * 16777216 + get_or bytes (4 * i + 1) 0 * 65536 + get_or bytes (4 * i + 2) 0 * 256 + get_or bytes (4 * i + 3) 0

-- the bytes with x for number i
unfoldable pub with_number : List ℕ → ℕ → ℕ → List ℕ
with_number bytes i x = set (set (set (set bytes (4 * i) (x / 16777216 % 256)) (4 * i + 1) (x / 65536 % 256)) (4 * i + 2) (x / 256 % 256)) (4 * i + 3) (x % 256)

-- the bytes with these numbers from number i on
unfoldable pub numbered : List ℕ → ℕ → List ℕ → List ℕ
numbered bytes i [] = bytes
numbered bytes i (x ∷ l) = numbered (with_number bytes i x) (i + 1) l
