-- Units: lists of bytes that stand one after another, and their exclusive-or.
use Rattle.std.specs.Prelude.{Bool, cond, List, [], ◌∷◌, ◌++◌, ℕ, zero, suc, ◌*◌, eqb, take, drop, replicate}
use Rattle.std.specs.Int.Bits.{bit_xor}

abbrev pub zeros : ℕ → List ℕ
zeros n = replicate n 0

-- unit n of a row of units of U bytes
unfoldable pub unit_at : ℕ → List ℕ → ℕ → List ℕ
unit_at U bytes n = take U (drop (n * U) bytes)

-- f 0, f 1, .., f (n - 1), one after another
unfoldable pub units_of : (ℕ → List ℕ) → ℕ → List ℕ
units_of f zero = []
units_of f (suc n) = units_of f n ++ f n

-- the exclusive-or of two units; the shorter is taken as if it went on with zeros
unfoldable pub xor_u : List ℕ → List ℕ → List ℕ
xor_u [] y = y
xor_u (a ∷ x) [] = a ∷ x
xor_u (a ∷ x) (b ∷ y) = bit_xor a b ∷ xor_u x y

-- the exclusive-or of the units f 0, .., f (n - 1) of U bytes
unfoldable pub xor_sum : ℕ → (ℕ → List ℕ) → ℕ → List ℕ
xor_sum U f zero = zeros U
xor_sum U f (suc n) = xor_u (xor_sum U f n) (f n)

unfoldable pub is_zero : List ℕ → Bool
is_zero [] = Bool.true
is_zero (a ∷ x) = cond (eqb a 0) (is_zero x) Bool.false

-- f, with x for i
abbrev pub put {ℓ} : {A : Type ℓ} → (ℕ → A) → ℕ → A → ℕ → A
put f i x j = cond (eqb j i) x (f j)
