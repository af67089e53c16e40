-- Laws of comparing many lanes with a number at once, word by word. Assumes nothing.
use mathlib.Core.Path.{◌≡◌, sym, ap, ap₂, ◌∙◌}
use mathlib.Core.Logic.{◌⊎◌, inl, inr}
use mathlib.Core.Bool.{Bool, true, false}
use Prim.Native.Nat.{ℕ, zero, suc, ◌-◌, ◌*◌, ◌/◌, ◌%◌, ◌^◌, ◌≤◌, ◌<◌}
use native.Mathlib.Nat.{mod-lt, one-mul, zero-add}
use native.Mathlib.Omega.{arith}
use lib.Dec.{eqb, ltb}
use lib.Pow.{pow_pos}
use lib.Bits.{bit_and, and_mask}
use lib.ListN.{length, get_or}
use mathlib.Core.List.{List}
use Rattle.std.specs.Bool.{MatchBool}
use Rattle.std.specs.List.{enumerate_from, AllWithin, HoldsAt}
use Rattle.std.proofs.lemmas.List.FromFn.{length-enumerate_from, get_or-enumerate_from}
use borrow.Author.Tests.{eqb-true, eq-eqb, ltb-true, ltb-false}
use Rattle.design.specs.Count.{every}
use Rattle.design.specs.inner.Planes.{bit, lane, plane_of, counted}
use Rattle.design.proofs.Counting.{decided, fails, alike, every-at, every_of}
use Rattle.design.proofs.Bits.{bit_of, bit_code, bit-lt, bit_zero, bit_low, bit_ones, bits_same}
use Rattle.design.proofs.Lanes.{lane-lt, bit-lane, lane_is}

-- ---- one word: the lanes below d are all bit i of the value

-- b in each of d lanes
spread_lt : (b d : ℕ) → b < 2 → b * (2 ^ d - 1) < 2 ^ d
spread_lt zero d h = omega (arith, pow_pos d)
spread_lt (suc zero) d h = omega (arith, pow_pos d)
spread_lt (suc (suc b)) d h = absurd (omega arith)

bit_spread : (b d e : ℕ) → b < 2 → e < d → bit (b * (2 ^ d - 1)) e ≡ b
bit_spread zero d e h l = ap (λ (x : ℕ). bit x e) (omega arith) ∙ bit_zero e
bit_spread (suc zero) d e h l = ap (λ (x : ℕ). bit x e) (one-mul (2 ^ d - 1)) ∙ bit_ones d e l
bit_spread (suc (suc b)) d e h l = absurd (omega arith)

module _ (value d i : ℕ) (hd : d < 64) where
  wanted_code : bit_and (value / 2 ^ i) 1 * ((1 * 2 ^ d) % 2 ^ 64 - 1) ≡ bit value i * (2 ^ d - 1)
  wanted_code = ap₂ (λ (b y : ℕ). b * (y - 1)) (bit_code value i) (bit_of d hd)

  module _ (x : ℕ) where
    word_code : bit_and x ((1 * 2 ^ d) % 2 ^ 64 - 1) ≡ x % 2 ^ d
    word_code = ap (λ (y : ℕ). bit_and x (y - 1)) (bit_of d hd) ∙ and_mask x d

    pub word_agrees : bit_and x ((1 * 2 ^ d) % 2 ^ 64 - 1) ≡ bit_and (value / 2 ^ i) 1 * ((1 * 2 ^ d) % 2 ^ 64 - 1) → (e : ℕ) → e < d → bit x e ≡ bit value i
    word_agrees q e l =
        sym (bit_low x d e l) ∙ ap (λ (y : ℕ). bit y e) (sym word_code ∙ q ∙ wanted_code) ∙ bit_spread (bit value i) d e (bit-lt value i) l

    pub agrees_word : ((e : ℕ) → e < d → bit x e ≡ bit value i) → bit_and x ((1 * 2 ^ d) % 2 ^ 64 - 1) ≡ bit_and (value / 2 ^ i) 1 * ((1 * 2 ^ d) % 2 ^ 64 - 1)
    agrees_word h =
        word_code
        ∙ bits_same d (x % 2 ^ d) (bit value i * (2 ^ d - 1)) (mod-lt x (pow_pos d)) (spread_lt (bit value i) d (bit-lt value i))
        (λ e l. bit_low x d e l ∙ h e l ∙ sym (bit_spread (bit value i) d e (bit-lt value i) l))
        ∙ sym wanted_code

-- ---- a row

-- the words before i have the bits of value in the lanes below d
abbrev pub AgreeTo : (ℕ → ℕ) → ℕ → ℕ → ℕ → Type 0
AgreeTo f d value i = (j : ℕ) → j < i → (e : ℕ) → e < d → bit (f j) e ≡ bit value j

pub all_true : (f : ℕ → ℕ) (d value n : ℕ) → value < 2 ^ n → AgreeTo f d value n → every d (λ e. eqb (lane f n e) value) ≡ true
all_true f d value n h a = every_of d (λ e. eqb (lane f n e) value) (λ e l. eq-eqb (lane f n e) value (lane_is f n e value h (λ i m. a i m e l)))

pub all_false : (f : ℕ → ℕ) (d value n i : ℕ) → i < n → (((e : ℕ) → e < d → bit (f i) e ≡ bit value i) → ⊥)
    → every d (λ e. eqb (lane f n e) value) ≡ false
all_false f d value n i h odd =
    fails (every d (λ e. eqb (lane f n e) value))
    (λ t. odd (λ e l. sym (bit-lane f n e i h) ∙ ap (λ (x : ℕ). bit x i) (eqb-true (lane f n e) value (every-at d (λ e'. eqb (lane f n e') value) t e l))))

-- word i of the row has them in the lanes below d, as the code compares them
abbrev pub Agrees : ℕ → ℕ → ℕ × ℕ → Type 0
Agrees d value (i, x) = bit_and x ((1 * 2 ^ d) % 2 ^ 64 - 1) ≡ bit_and (value / 2 ^ i) 1 * ((1 * 2 ^ d) % 2 ^ 64 - 1)

pub row_agrees : (row : List ℕ) (d value : ℕ) (r : Bool) → d < 64 → value < 2 ^ 11 → length row ≡ 11
    → (let l = enumerate_from 0 row in MatchBool r (AllWithin (Agrees d value) l 0 (length l)) ((k : ℕ) × (k < length l) × HoldsAt (λ p. Agrees d value p → ⊥) l k))
    → r ≡ every d (λ e. eqb (counted row e) value)
row_agrees row d value r hd hv long h = go r h
  where
    pair : ℕ → ℕ → ℕ × ℕ
    pair n x = (n, x)

    at : (i : ℕ) → i < 11 → get_or (enumerate_from 0 row) i (0, 0) ≡ (i, plane_of row i)
    at i l = get_or-enumerate_from 0 row i (0, 0) (omega arith) ∙ ap (λ (n : ℕ). pair n (plane_of row i)) (zero-add i)

    go : (r : Bool) → (let l = enumerate_from 0 row in MatchBool r (AllWithin (Agrees d value) l 0 (length l)) ((k : ℕ) × (k < length l) × HoldsAt (λ p. Agrees d value p → ⊥) l k))
        → r ≡ every d (λ e. eqb (counted row e) value)
    go true h =
        sym (all_true (plane_of row) d value 11 hv (λ j l. word_agrees value d j hd (plane_of row j) (rw (at j l) at (h j (0, 0) (omega arith) (omega (arith, length-enumerate_from 0 row))))))
    go false (k, l, h) =
        let m : k < 11 = omega (arith, length-enumerate_from 0 row) in
        sym (all_false (plane_of row) d value 11 k m (λ e. (rw (at k m) at (h (0, 0))) (agrees_word value d k hd (plane_of row k) e)))

-- ---- all rows

-- no lane holds so large a value: only where there is no pair do all hold it
pub no_pair_even : (f : ℕ → ℕ → ℕ) (v value n : ℕ) → 2 ^ n ≤ value → ltb v 2 ≡ every v (λ d. every d (λ e. eqb (lane (f d) n e) value))
no_pair_even f v value n h =
    alike (ltb v 2) (every v (λ d. every d (λ e. eqb (lane (f d) n e) value)))
    (λ t. every_of v _ (λ d l. every_of d _ (λ e m. absurd (omega (arith, ltb-true v 2 t)))))
    (λ t. go (decided (ltb v 2)) t)
  where
    go : (ltb v 2 ≡ true) ⊎ (ltb v 2 ≡ false) → every v (λ d. every d (λ e. eqb (lane (f d) n e) value)) ≡ true → ltb v 2 ≡ true
    go (inl p) t = p
    go (inr p) t =
        let q : lane (f 1) n 0 ≡ value =
        eqb-true (lane (f 1) n 0) value
        (every-at 1 (λ e. eqb (lane (f 1) n e) value) (every-at v (λ d. every d (λ e. eqb (lane (f d) n e) value)) t 1 (omega (arith, ltb-false v 2 p))) 0 (omega arith)) in
        absurd (omega (arith, lane-lt (f 1) n 0))
