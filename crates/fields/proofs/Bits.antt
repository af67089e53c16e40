-- The bit of weight 2 ^ k of a number, and the number with another bit there. Assumes nothing.
use mathlib.Core.Path.{◌≡◌, sym, ap, ◌∙◌}
use mathlib.Core.Logic.{◌≢◌}
use Prim.Native.Nat.{ℕ, suc, ◌+◌, ◌-◌, ◌*◌, ◌/◌, ◌%◌, ◌^◌, ◌≤◌, ◌<◌}
use native.Mathlib.Nat.{le_trans, mul-le-mul_right, mod-le, mod-lt, div-mul-le_self, div-add-mod', div-lt_iff_lt-mul, div-one, zero-div, pow-suc}
use native.Mathlib.Decide.{dec_lt}
use native.Mathlib.Omega.{arith}
use lib.Arith.{digits_lt}
use lib.Pow.{pow_pos, pow-add, shr-shr, split, high, low, mod-mod-pow}
use lib.Pow as Pow

-- n with y for the bit of weight 2 ^ k
abbrev pub put_bit : ℕ → ℕ → ℕ → ℕ
put_bit n k y = n - n / 2 ^ k % 2 * 2 ^ k + y * 2 ^ k

pub bit_le : (n k : ℕ) → n / 2 ^ k % 2 * 2 ^ k ≤ n
bit_le n k = le_trans (mul-le-mul_right (2 ^ k) (mod-le (n / 2 ^ k) 2)) (div-mul-le_self n (2 ^ k))

-- what stands above, at and below the bit that was put
put_bit-split : (n k y : ℕ) → put_bit n k y ≡ (n / 2 ^ k / 2 * 2 + y) * 2 ^ k + n % 2 ^ k
put_bit-split n k y = omega (arith, split n k, ap (λ (q : ℕ). q * 2 ^ k) (div-add-mod' (n / 2 ^ k) 2))

put_bit-div : (n k y : ℕ) → put_bit n k y / 2 ^ k ≡ n / 2 ^ k / 2 * 2 + y
put_bit-div n k y = rw put_bit-split (high (n / 2 ^ k / 2 * 2 + y) k (mod-lt n (pow_pos k)))

put_bit-mod : (n k y : ℕ) → put_bit n k y % 2 ^ k ≡ n % 2 ^ k
put_bit-mod n k y = rw put_bit-split (low (n / 2 ^ k / 2 * 2 + y) k (mod-lt n (pow_pos k)))

pub put_bit_same : (n k y : ℕ) → y < 2 → put_bit n k y / 2 ^ k % 2 ≡ y
put_bit_same n k y h = rw put_bit-div (omega arith)

-- the bits below weight 2 ^ k are those of the remainder
bit-mod : (n k j : ℕ) → j < k → n % 2 ^ k / 2 ^ j % 2 ≡ n / 2 ^ j % 2
bit-mod n k j h =
    let e : k ≡ k - suc j + 1 + j = omega arith in
    ap (λ (m : ℕ). n % 2 ^ m / 2 ^ j % 2) e ∙ ap (λ (q : ℕ). q % 2) (Pow.field n (k - suc j + 1) j) ∙ mod-mod-pow (n / 2 ^ j) (k - suc j) 1

-- those above are those of the quotient
bit-div : (n k j : ℕ) → k < j → n / 2 ^ j ≡ n / 2 ^ k / 2 / 2 ^ (j - suc k)
bit-div n k j h =
    let e : j ≡ k + 1 + (j - suc k) = omega arith in
    ap (λ (m : ℕ). n / 2 ^ m) e ∙ sym (shr-shr n (k + 1) (j - suc k)) ∙ ap (λ (q : ℕ). q / 2 ^ (j - suc k)) (sym (shr-shr n k 1))

pub put_bit-other : (n k y j : ℕ) → y < 2 → j ≢ k → put_bit n k y / 2 ^ j % 2 ≡ n / 2 ^ j % 2
put_bit-other n k y j h ne = go (dec_lt j k)
  where
    go : Dec (j < k) → put_bit n k y / 2 ^ j % 2 ≡ n / 2 ^ j % 2
    go (yes l) = sym (bit-mod (put_bit n k y) k j l) ∙ ap (λ (r : ℕ). r / 2 ^ j % 2) (put_bit-mod n k y) ∙ bit-mod n k j l
    go (no l) =
        let above : k < j = omega arith in
        let e : put_bit n k y / 2 ^ k / 2 ≡ n / 2 ^ k / 2 = rw put_bit-div (omega arith) in
        ap (λ (q : ℕ). q % 2) (bit-div (put_bit n k y) k j above ∙ ap (λ (q : ℕ). q / 2 ^ (j - suc k)) e ∙ sym (bit-div n k j above))

pub put_bit-lt : (n k y m : ℕ) → n < 2 ^ m → k < m → y < 2 → put_bit n k y < 2 ^ m
put_bit-lt n k y m hn hk hy =
    let e : 2 ^ m ≡ 2 ^ (m - suc k) * 2 * 2 ^ k = ap (λ (j : ℕ). 2 ^ j) split-m ∙ pow-add 2 (suc (m - suc k)) k ∙ ap (λ (p : ℕ). p * 2 ^ k) (pow-suc 2 (m - suc k)) in
    let q : n / 2 ^ k < 2 ^ (m - suc k) * 2 = (div-lt_iff_lt-mul (pow_pos k)).1 (rw e at hn) in
    rw (put_bit-split, e) (digits_lt (omega arith) (mod-lt n (pow_pos k)))
  where
    split-m : m ≡ suc (m - suc k) + k
    split-m = omega arith

-- ---- the bits of a number of so many bits, the most significant first

pub half-div : (x w i : ℕ) → i < w → x / 2 / 2 ^ (w - suc i) ≡ x / 2 ^ (suc w - suc i)
half-div x w i h =
    let e : 1 + (w - suc i) ≡ suc w - suc i = omega arith in
    shr-shr x 1 (w - suc i) ∙ ap (λ (m : ℕ). x / 2 ^ m) e

pub last_div : (x w i : ℕ) → i ≡ w → x / 2 ^ (suc w - suc i) ≡ x
last_div x w i e =
    let none : suc w - suc i ≡ 0 = omega arith in
    ap (λ (m : ℕ). x / 2 ^ m) none ∙ div-one x

pub zero_bit : (k : ℕ) → 0 / 2 ^ k % 2 ≡ 0
zero_bit k = ap (λ (q : ℕ). q % 2) (zero-div (2 ^ k))

-- ---- where bit at + i stands, counted from the byte of bit at

pub byte_of : (at i : ℕ) → (at + i) / 8 ≡ at / 8 + (at % 8 + i) / 8
byte_of at i = omega arith

pub place_of : (at i : ℕ) → (at + i) % 8 ≡ (at % 8 + i) % 8
place_of at i = omega arith
