-- Where the data of a stripe stand in its tuple: in address order, the parity's position left out (document 01: "data j is at
-- position j where j < p, else j+1").
use Rattle.std.specs.Prelude.{cond, ℕ, ◌+◌, ◌-◌, ltb}

-- the position of data j, where the parity is at p
abbrev pub position_of : ℕ → ℕ → ℕ
position_of p j = cond (ltb j p) j (j + 1)

-- the data at position x, which is not the parity's
abbrev pub index_of : ℕ → ℕ → ℕ
index_of p x = cond (ltb x p) x (x - 1)
