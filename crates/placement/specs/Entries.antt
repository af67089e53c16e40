-- The entries of the table, as one pass over the first n finds them: the rank of each, and those of one disk.
use Rattle.std.specs.Prelude.{Bool, cond, List, ℕ, ltb, eqb, get_or}
use Rattle.design.specs.Count.{count, nth, list_from}
use Rattle.design.specs.Sheet.{table_size}

-- entry i is disk d
abbrev pub is_disk : List ℕ → ℕ → ℕ → Bool
is_disk table d i = eqb (get_or table i 0) d

-- a number for each entry of the table: the first n are f's, the others zero
abbrev pub per_entry : ℕ → (ℕ → ℕ) → List ℕ
per_entry n f = list_from 0 table_size (λ i. cond (ltb i n) (f i) 0)

-- how many entries before entry i are its disk
abbrev pub rank_in : List ℕ → ℕ → ℕ
rank_in table i = count (is_disk table (get_or table i 0)) i

unfoldable pub ranks_of : List ℕ → ℕ → List ℕ
ranks_of table n = per_entry n (rank_in table)

-- the entries that are disk d, in their order
unfoldable pub entries_of : List ℕ → ℕ → ℕ → List ℕ
entries_of table n d = per_entry (count (is_disk table d) n) (nth (is_disk table d) n)
