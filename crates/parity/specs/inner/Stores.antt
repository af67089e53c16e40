-- What the code's steps do: a unit of the image replaced, and a table of ranks.
use Rattle.std.specs.Prelude.{◌≡◌, List, ℕ, ◌*◌, ◌<◌, eqb, get_or}
use Rattle.std.proofs.Math.Seq.{paste}
use Rattle.design.specs.Count.{count}

-- the image with x for unit n
unfoldable pub put_unit : ℕ → List ℕ → ℕ → List ℕ → List ℕ
put_unit U image n x = paste image (n * U) x U

-- for each of the first n entries of the table, how many before it have the same disk
abbrev pub Ranked : List ℕ → ℕ → List ℕ → Type 0
Ranked table n ranks = (i : ℕ) → i < n → get_or ranks i 0 ≡ count (λ j. eqb (get_or table j 0) (get_or table i 0)) i
