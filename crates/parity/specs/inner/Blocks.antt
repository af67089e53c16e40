-- Numbered units: the exclusive-or of all but one of them, when they are mixed block by block, and the numbers of their blocks.
use Rattle.std.specs.Prelude.{◌≡◌, Bool, ◌&&◌, List, ℕ, ◌+◌, ◌*◌, ◌%◌, ◌≤◌, ◌<◌, ltb, eqb, get_or}
use Rattle.design.specs.Tuples.{Different}
use Rattle.parity.specs.Units.{zeros, unit_at, xor_sum, put}

-- the units of a stripe of k, of U bytes each, are mixed by blocks: where there are four or more, of whole blocks
unfoldable pub by_blocks : ℕ → ℕ → Bool
by_blocks k U = ltb 3 k && eqb (U % 128) 0

-- the exclusive-or of the first k numbered units, with x for unit i
abbrev pub sum_with : ℕ → List ℕ → (ℕ → ℕ) → ℕ → List ℕ → ℕ → List ℕ
sum_with U row number i x k = xor_sum U (put (λ j. unit_at U row (number j)) i x) k

-- and but unit i
abbrev pub rest_of : ℕ → List ℕ → (ℕ → ℕ) → ℕ → ℕ → List ℕ
rest_of U row number i k = sum_with U row number i (zeros U) k

-- the numbers in a list
abbrev pub numbered : List ℕ → ℕ → ℕ
numbered numbers j = get_or numbers j 0

-- where each unit has `per` blocks, those q of the numbered units
abbrev pub blocks_at : (ℕ → ℕ) → ℕ → ℕ → ℕ → ℕ
blocks_at number per q j = number j * per + q

-- the first k numbered units lie within n bytes
abbrev pub Within : ℕ → (ℕ → ℕ) → ℕ → ℕ → Type 0
Within U number k n = (j : ℕ) → j < k → number j * U + U ≤ n

-- they do, each in a place of its own
pub record Placed (U : ℕ) (number : ℕ → ℕ) (k n : ℕ) : Type 0 where
  pub within : Within U number k n
  pub apart : Different number k

-- the first k numbers in a list are these
abbrev pub Listed : List ℕ → (ℕ → ℕ) → ℕ → Type 0
Listed numbers number k = (j : ℕ) → j < k → get_or numbers j 0 ≡ number j
