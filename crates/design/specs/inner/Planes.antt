-- Counters in bit planes: lane e of n words is the number whose bit i is bit e of word i.
use Rattle.std.specs.Prelude.{◌≡◌, List, [], ℕ, zero, suc, ◌+◌, ◌*◌, ◌/◌, ◌%◌, ◌^◌, get_or}

-- bit e of a word
unfoldable pub bit : ℕ → ℕ → ℕ
bit x e = x / 2 ^ e % 2

-- lane e of the first n of the words `word 0`, `word 1`, ..
unfoldable pub lane : (ℕ → ℕ) → ℕ → ℕ → ℕ
lane word zero e = zero
lane word (suc n) e = lane word n e + 2 ^ n * bit (word n) e

-- plane i of a row of 11, and the number in lane e of the row
abbrev pub plane_of : List ℕ → ℕ → ℕ
plane_of row i = get_or row i 0

abbrev pub counted : List ℕ → ℕ → ℕ
counted row e = lane (plane_of row) 11 e

-- one more in the lanes of the mask
abbrev pub AddedRow : ℕ → List ℕ → List ℕ → Type 0
AddedRow mask row after = (e : ℕ) → counted after e ≡ counted row e + bit mask e

-- row d
abbrev pub row_of : List (List ℕ) → ℕ → List ℕ
row_of planes d = get_or planes d []
