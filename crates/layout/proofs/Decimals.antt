-- Numbers in decimal: digit by digit, how many digits there are, and that they read back to the number. Assumes nothing.
use mathlib.Core.Path.{◌≡◌, refl, sym, ap, ◌∙◌}
use mathlib.Core.Logic.{◌⊎◌, inl, inr}
use mathlib.Core.Bool.{true, false}
use mathlib.Core.List.{List, [], ◌∷◌, ◌++◌}
use Prim.Native.Nat.{ℕ, zero, suc, max, ◌+◌, ◌-◌, ◌*◌, ◌/◌, ◌%◌, ◌^◌, ◌≤◌, ◌<◌}
use native.Mathlib.Nat.{div-lt_iff_lt-mul, div-add-mod', one-le-pow}
use native.Mathlib.Omega.{arith}
use lib.Dec.{ltb}
use lib.ListN.{length, length-append}
use borrow.Author.Tests.{ltb-true, ltb-false, lt-ltb, le-ltb}
use Rattle.design.proofs.Counting.{decided}
use Rattle.layout.specs.Text.{digit, last_digits, decimal}

-- ---- digit by digit

last_one : (most n : ℕ) → n < 10 → last_digits (suc most) n ≡ digit n ∷ []
unfolding last_digits
last_one most n h = rw (lt-ltb n 10 h, last_digits)

last_more : (most n : ℕ) → 10 ≤ n → last_digits (suc most) n ≡ last_digits most (n / 10) ++ digit (n % 10) ∷ []
unfolding last_digits
last_more most n h = rw (le-ltb n 10 h, last_digits)

tenth_lt : (n m : ℕ) → 10 ≤ n → n < suc m → n / 10 < m
tenth_lt n m h l = omega (arith, div-add-mod' n 10)

-- more than enough changes nothing
enough : (most more n : ℕ) → n < most → n < more → last_digits most n ≡ last_digits more n
enough zero more n h l = absurd (omega arith)
enough (suc most) zero n h l = absurd (omega arith)
enough (suc most) (suc more) n h l = go (decided (ltb n 10)) (enough most more (n / 10))
  where
    go : (ltb n 10 ≡ true) ⊎ (ltb n 10 ≡ false) → (n / 10 < most → n / 10 < more → last_digits most (n / 10) ≡ last_digits more (n / 10))
        → last_digits (suc most) n ≡ last_digits (suc more) n
    go (inl e) r = last_one most n (ltb-true n 10 e) ∙ sym (last_one more n (ltb-true n 10 e))
    go (inr e) r =
        let ten : 10 ≤ n = ltb-false n 10 e in
        last_more most n ten
        ∙ ap (λ (l : List ℕ). l ++ digit (n % 10) ∷ []) (r (tenth_lt n most ten h) (tenth_lt n more ten l))
        ∙ sym (last_more more n ten)

pub decimal-one : (n : ℕ) → n < 10 → decimal n ≡ digit n ∷ []
unfolding decimal
decimal-one n h = last_one n n h

pub decimal_more : (n : ℕ) → 10 ≤ n → decimal n ≡ decimal (n / 10) ++ digit (n % 10) ∷ []
unfolding decimal
decimal_more n h =
    last_more n n h ∙ ap (λ (l : List ℕ). l ++ digit (n % 10) ∷ []) (enough n (suc (n / 10)) (n / 10) (tenth_lt n n h (omega arith)) (omega arith))

pub decimal_next : (n : ℕ) → 10 ≤ n → length (decimal n) ≡ length (decimal (n / 10)) + 1
decimal_next n h = ap length (decimal_more n h) ∙ length-append (decimal (n / 10)) (digit (n % 10) ∷ [])

-- ---- how many

-- a number below 10^m has at most m digits
pub digits_most : (m n : ℕ) → n < 10 ^ suc m → length (decimal n) ≤ suc m
digits_most zero n h = omega (arith, ap length (decimal-one n (omega arith)))
digits_most (suc m) n h = go (decided (ltb n 10)) (digits_most m (n / 10))
  where
    go : (ltb n 10 ≡ true) ⊎ (ltb n 10 ≡ false) → (n / 10 < 10 ^ suc m → length (decimal (n / 10)) ≤ suc m) → length (decimal n) ≤ suc (suc m)
    go (inl e) r = omega (arith, ap length (decimal-one n (ltb-true n 10 e)))
    go (inr e) r = omega (arith, decimal_next n (ltb-false n 10 e), r ((div-lt_iff_lt-mul {k = 10} (omega arith)).1 (omega arith)))

-- and one from 10^m on has more than m
digits_least : (m n : ℕ) → 10 ^ m ≤ n → suc m ≤ length (decimal n)
digits_least zero n h = go (decided (ltb n 10))
  where
    go : (ltb n 10 ≡ true) ⊎ (ltb n 10 ≡ false) → 1 ≤ length (decimal n)
    go (inl e) = omega (arith, ap length (decimal-one n (ltb-true n 10 e)))
    go (inr e) = omega (arith, decimal_next n (ltb-false n 10 e))
digits_least (suc m) n h = omega (arith, digits_least m (n / 10) (omega (arith, div-add-mod' n 10)), decimal_next n (omega (arith, one-le-pow m 10 (omega arith))))

-- one digit or more
pub below_ten : (n : ℕ) → length (decimal n) ≤ 1 → n < 10
below_ten n h = go (decided (ltb n 10))
  where
    go : (ltb n 10 ≡ true) ⊎ (ltb n 10 ≡ false) → n < 10
    go (inl e) = ltb-true n 10 e
    go (inr e) = absurd (omega (arith, h, digits_least 1 n (ltb-false n 10 e)))

pub ten_of_two : (n : ℕ) → 1 < length (decimal n) → 10 ≤ n
ten_of_two n h = go (decided (ltb n 10))
  where
    go : (ltb n 10 ≡ true) ⊎ (ltb n 10 ≡ false) → 10 ≤ n
    go (inl e) = absurd (omega (arith, h, digits_most 0 n (ltb-true n 10 e)))
    go (inr e) = ltb-false n 10 e

-- 0 has as many as 1
pub digits_count : (m n : ℕ) → 10 ^ m ≤ max n 1 → max n 1 < 10 * 10 ^ m → m + 1 ≡ length (decimal n)
digits_count zero n l h = sym (ap length (decimal-one n (omega arith)))
digits_count (suc m) n l h =
    let some : 1 ≤ 10 ^ m = one-le-pow m 10 (omega arith) in
    omega (arith, digits_least (suc m) n (omega arith), digits_most (suc m) n (omega arith))

-- ---- reading back

-- the number that digits go on to spell, after those that spell n
abbrev pub read_from : ℕ → List ℕ → ℕ
read_from n [] = n
read_from n (x ∷ digits) = read_from (n * 10 + (x - 48)) digits

read-append : (n : ℕ) (x y : List ℕ) → read_from n (x ++ y) ≡ read_from (read_from n x) y
read-append n [] y = refl
read-append n (d ∷ x) y = read-append (n * 10 + (d - 48)) x y

read_last : (most n : ℕ) → n < most → read_from 0 (last_digits most n) ≡ n
read_last zero n h = absurd (omega arith)
read_last (suc most) n h = go (decided (ltb n 10)) (read_last most (n / 10))
  where
    go : (ltb n 10 ≡ true) ⊎ (ltb n 10 ≡ false) → (n / 10 < most → read_from 0 (last_digits most (n / 10)) ≡ n / 10)
        → read_from 0 (last_digits (suc most) n) ≡ n
    go (inl e) r = ap (read_from 0) (last_one most n (ltb-true n 10 e)) ∙ omega arith
    go (inr e) r =
        let ten : 10 ≤ n = ltb-false n 10 e in
        ap (read_from 0) (last_more most n ten)
        ∙ read-append 0 (last_digits most (n / 10)) (digit (n % 10) ∷ [])
        ∙ ap (λ (x : ℕ). x * 10 + (digit (n % 10) - 48)) (r (tenth_lt n most ten h))
        ∙ omega (arith, div-add-mod' n 10)

-- the digits of a number read back to it
pub read-decimal : (n : ℕ) → read_from 0 (decimal n) ≡ n
unfolding decimal
read-decimal n = read_last (suc n) n (omega arith)

-- two numbers of the same digits are equal
pub decimal_inj : (m n : ℕ) → decimal m ≡ decimal n → m ≡ n
decimal_inj m n e = sym (read-decimal m) ∙ ap (read_from 0) e ∙ read-decimal n
