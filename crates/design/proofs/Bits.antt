-- Laws of the bits of words. Assumes nothing.
use mathlib.Core.Path.{◌≡◌, sym, ap, ap₂, ◌∙◌}
use mathlib.Core.Logic.{◌≢◌, ◌⊎◌, inl, inr}
use mathlib.Core.Bool.{true, false, cond}
use Prim.Native.Nat.{ℕ, zero, suc, ◌+◌, ◌*◌, ◌/◌, ◌%◌, ◌-◌, ◌^◌, ◌<◌}
use native.Mathlib.Nat.{mod-lt, zero-div, one-mul, mul-div_cancel, div-eq_of_lt, pow-suc, mul-mod_left, mod-eq_of_lt}
use native.Mathlib.Omega.{arith}
use lib.Dec.{eqb, ltb}
use lib.Pow.{pow_pos, pow-lt, pow-add, shr_lt, split, high, low, field, mod-mod-pow, ones_split, ones_lt}
use lib.Bits.{bit_and, bit_or, bit_xor, and_shr, and_mod, and_mask, or_shr, or_mod, xor_shr, xor_mod, xor_add_and}
use borrow.Author.Tests.{eqb-true, eqb-false, ltb-true, ltb-false}
use Rattle.design.specs.inner.Planes.{bit}
use Rattle.design.proofs.Counting.{decided}

pub bit-lt : (x e : ℕ) → bit x e < 2
unfolding bit
bit-lt x e = mod-lt (x / 2 ^ e) (omega arith)

pub bit_zero : (e : ℕ) → bit 0 e ≡ 0
unfolding bit
bit_zero e = ap (λ (z : ℕ). z % 2) (zero-div (2 ^ e))

-- bit by bit
bit-xor : (x y e : ℕ) → bit (bit_xor x y) e ≡ bit_xor (bit x e) (bit y e)
unfolding bit
bit-xor x y e = ap (λ (z : ℕ). z % 2) (xor_shr x y e) ∙ xor_mod (x / 2 ^ e) (y / 2 ^ e) 1

bit-and : (x y e : ℕ) → bit (bit_and x y) e ≡ bit_and (bit x e) (bit y e)
unfolding bit
bit-and x y e = ap (λ (z : ℕ). z % 2) (and_shr x y e) ∙ and_mod (x / 2 ^ e) (y / 2 ^ e) 1

pub bit-or : (x y e : ℕ) → bit (bit_or x y) e ≡ bit_or (bit x e) (bit y e)
unfolding bit
bit-or x y e = ap (λ (z : ℕ). z % 2) (or_shr x y e) ∙ or_mod (x / 2 ^ e) (y / 2 ^ e) 1

-- the half adder, in every lane
pub half-add : (x y e : ℕ) → bit (bit_xor x y) e + 2 * bit (bit_and x y) e ≡ bit x e + bit y e
half-add x y e = omega (arith, bit-xor x y e, bit-and x y e, xor_add_and (bit x e) (bit y e))

-- ---- as the code says it

-- `x >> e & 1`
pub bit_code : (x e : ℕ) → bit_and (x / 2 ^ e) 1 ≡ bit x e
unfolding bit
bit_code x e = and_mask (x / 2 ^ e) 1

-- `1 << d`
pub bit_of : (d : ℕ) → d < 64 → (1 * 2 ^ d) % 2 ^ 64 ≡ 2 ^ d
bit_of d h = ap (λ (x : ℕ). x % 2 ^ 64) (one-mul (2 ^ d)) ∙ mod-eq_of_lt (pow-lt h)

-- ---- words by their bits

-- one bit
pub bit-one : (d e : ℕ) → bit (2 ^ d) e ≡ cond (eqb d e) 1 0
unfolding bit
bit-one d e = go (decided (eqb d e)) (decided (ltb d e))
  where
    far : (m : ℕ) → d ≡ suc m + e → 2 ^ d / 2 ^ e % 2 ≡ 0
    far m q = rw (q, pow-add 2 (suc m) e, mul-div_cancel (2 ^ suc m) (pow_pos e), pow-suc 2 m) (mul-mod_left (2 ^ m) 2)

    go : (eqb d e ≡ true) ⊎ (eqb d e ≡ false) → (ltb d e ≡ true) ⊎ (ltb d e ≡ false) → 2 ^ d / 2 ^ e % 2 ≡ cond (eqb d e) 1 0
    go (inl p) y =
        let q : 2 ^ d / 2 ^ e ≡ 1 = rw (eqb-true d e p) (ap (λ (x : ℕ). x / 2 ^ e) (sym (one-mul (2 ^ e))) ∙ mul-div_cancel 1 (pow_pos e)) in
        rw (p, q)
    go (inr p) (inl y) =
        let q : 2 ^ d / 2 ^ e ≡ 0 = div-eq_of_lt (pow-lt (ltb-true d e y)) in
        rw (p, q)
    go (inr p) (inr y) =
        let ne : d ≢ e = eqb-false d e p in
        let l : e < d = omega (arith, ltb-false d e y) in
        rw p (far (d - suc e) (omega arith))

-- the low bits are those of the remainder
pub bit_low : (x n e : ℕ) → e < n → bit (x % 2 ^ n) e ≡ bit x e
unfolding bit
bit_low x n e h =
    let q : n ≡ (n - (1 + e)) + (1 + e) = omega arith in
    sym (field (x % 2 ^ n) 1 e)
    ∙ ap (λ (m : ℕ). x % 2 ^ m % 2 ^ (1 + e) / 2 ^ e) q
    ∙ ap (λ (y : ℕ). y / 2 ^ e) (mod-mod-pow x (n - (1 + e)) (1 + e))
    ∙ field x 1 e

-- n ones
pub bit_ones : (n e : ℕ) → e < n → bit (2 ^ n - 1) e ≡ 1
unfolding bit
bit_ones n e h =
    let q : n ≡ (n - suc e) + 1 + e = omega arith in
    ap (λ (m : ℕ). (2 ^ m - 1) / 2 ^ e % 2) q
    ∙ ap (λ (y : ℕ). y / 2 ^ e % 2) (ones_split (n - suc e + 1) e)
    ∙ ap (λ (y : ℕ). y % 2) (high (2 ^ (n - suc e + 1) - 1) e (ones_lt e))
    ∙ ap (λ (y : ℕ). y % 2) (ones_split (n - suc e) 1)
    ∙ low (2 ^ (n - suc e) - 1) 1 (omega arith)

pow-one-add : (n : ℕ) → 2 ^ suc n ≡ 2 ^ (1 + n)
pow-one-add n = ap (λ (m : ℕ). 2 ^ m) (omega arith)

-- a number is its bits
pub bits_same : (n x y : ℕ) → x < 2 ^ n → y < 2 ^ n → ((e : ℕ) → e < n → bit x e ≡ bit y e) → x ≡ y
unfolding bit
bits_same zero x y hx hy h = omega arith
bits_same (suc n) x y hx hy h =
    let p : x / 2 ^ n ≡ y / 2 ^ n = omega (arith, shr_lt {n = x} 1 n (rw (pow-one-add n) at hx), shr_lt {n = y} 1 n (rw (pow-one-add n) at hy), h n (omega arith)) in
    let q : x % 2 ^ n ≡ y % 2 ^ n = bits_same n (x % 2 ^ n) (y % 2 ^ n) (mod-lt x (pow_pos n)) (mod-lt y (pow_pos n)) (λ e l. bit_low x n e l ∙ h e (omega arith) ∙ sym (bit_low y n e l)) in
    sym (split x n) ∙ ap₂ (λ (a b : ℕ). a * 2 ^ n + b) p q ∙ split y n

-- a word whose bits are all zero is zero
pub no_bits : (n x : ℕ) → x < 2 ^ n → ((e : ℕ) → e < n → bit x e ≡ 0) → x ≡ 0
no_bits n x h z = bits_same n x 0 h (pow_pos n) (λ e l. z e l ∙ sym (bit_zero e))

-- the bit above n others
pub bit_high : (hi n : ℕ) {lo : ℕ} → lo < 2 ^ n → hi < 2 → bit (hi * 2 ^ n + lo) n ≡ hi
unfolding bit
bit_high hi n h l = ap (λ (x : ℕ). x % 2) (high hi n h) ∙ mod-eq_of_lt l
