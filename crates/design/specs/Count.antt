-- Counting the numbers below n that pass a test, and lists given entry by entry.
use Rattle.std.specs.Prelude.{Bool, true, false, cond, ◌&&◌, List, [], ◌∷◌, ℕ, zero, suc, ltb}

-- how many i below n pass f
unfoldable pub count : (ℕ → Bool) → ℕ → ℕ
count f zero = zero
count f (suc n) = cond (f n) (suc (count f n)) (count f n)

-- each i below n passes f
unfoldable pub every : ℕ → (ℕ → Bool) → Bool
every zero f = true
every (suc n) f = every n f && f n

-- the i below n that passes f and has m such before it
unfoldable pub nth : (ℕ → Bool) → ℕ → ℕ → ℕ
nth f zero m = zero
nth f (suc n) m = elim (ltb m (count f n)) [ true ↦ nth f n m | false ↦ n ]

-- f i, f (i + 1), .., n in all
unfoldable pub list_from : ℕ → ℕ → (ℕ → ℕ) → List ℕ
list_from i zero f = []
list_from i (suc n) f = f i ∷ list_from (suc i) n f
