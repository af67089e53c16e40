-- What a bit or a field that is written changes, and what it keeps. Assumes nothing.
use mathlib.Core.Path.{◌≡◌, refl, ap, ◌∙◌}
use mathlib.Core.Logic.{◌≢◌, ◌⊎◌, inl, inr, ⊎_elim}
use mathlib.Core.List.{List}
use Prim.Native.Nat.{ℕ, zero, suc, ◌+◌, ◌-◌, ◌*◌, ◌/◌, ◌%◌, ◌^◌, ◌≤◌, ◌<◌}
use native.Mathlib.Nat.{lt_of_lt_of_le, mod-lt, pow-suc, eq-or-lt_of_le}
use native.Mathlib.Decide.{ℕ_discrete, dec_lt}
use native.Mathlib.Omega.{arith}
use lib.ListN.{length, get_or, length-set}
use lib.Pow.{pow_mono}
use lib.Seq.{get_or-set_same, get_or-set_other, set_out}
use Rattle.fields.specs.Field.{bit_at, field, with_bit, with_field}
use Rattle.fields.proofs.Bits.{put_bit, put_bit_same, put_bit-other, put_bit-lt, half-div, last_div}

-- every element is a byte
abbrev pub IsBytes : List ℕ → Type 0
IsBytes l = (i : ℕ) → get_or l i 0 < 256

-- a field of w bits from at on is wholly inside the bytes
pub record Inside (bytes : List ℕ) (at w : ℕ) : Type 0 where
  pub least : 1 ≤ w
  pub most : w ≤ 32
  pub ends : at + w ≤ 8 * length bytes

-- ---- bounds

pub bit-lt : (bytes : List ℕ) (i : ℕ) → bit_at bytes i < 2
unfolding bit_at
bit-lt bytes i = mod-lt (get_or bytes (i / 8) 0 / 2 ^ (7 - i % 8)) (omega arith)

pub field_lt : (bytes : List ℕ) (at w : ℕ) → field bytes at w < 2 ^ w
unfolding field
field_lt bytes at zero = omega arith
field_lt bytes at (suc w) = rw pow-suc (omega (arith, field_lt bytes at w, bit-lt bytes (at + w)))

pub field_fits : (bytes : List ℕ) (at w m : ℕ) → w ≤ m → field bytes at w < 2 ^ m
field_fits bytes at w m h = lt_of_lt_of_le (field_lt bytes at w) (pow_mono h)

-- ---- one bit written

length-with_bit : (l : List ℕ) (i y : ℕ) → length (with_bit l i y) ≡ length l
unfolding with_bit
length-with_bit l i y = length-set l (i / 8) (get_or l (i / 8) 0 - bit_at l i * 2 ^ (7 - i % 8) + y * 2 ^ (7 - i % 8))

byte-with_bit : (l : List ℕ) (i y : ℕ) → i / 8 < length l → get_or (with_bit l i y) (i / 8) 0 ≡ put_bit (get_or l (i / 8) 0) (7 - i % 8) y
unfolding with_bit bit_at
byte-with_bit l i y h = get_or-set_same l (i / 8) (put_bit (get_or l (i / 8) 0) (7 - i % 8) y) 0 h

-- byte j is kept, or is the one that has the bit
abbrev Kept-or-put : List ℕ → ℕ → ℕ → ℕ → Type 0
Kept-or-put l i y j = (get_or (with_bit l i y) j 0 ≡ get_or l j 0) ⊎ ((j ≡ i / 8) × (get_or (with_bit l i y) j 0 ≡ put_bit (get_or l j 0) (7 - i % 8) y))

kept_or-put : (l : List ℕ) (i y j : ℕ) → Kept-or-put l i y j
unfolding with_bit
kept_or-put l i y j = go (ℕ_discrete j (i / 8)) (dec_lt (i / 8) (length l))
  where
    go : Dec (j ≡ i / 8) → Dec (i / 8 < length l) → Kept-or-put l i y j
    go (no ne) d = inl (get_or-set_other l (i / 8) j _ 0 ne)
    go (yes e) (yes h) = inr (e, rw e (byte-with_bit l i y h))
    go (yes e) (no h) = inl (ap (λ (b : List ℕ). get_or b j 0) (set_out l (i / 8) _ (omega arith)))

bytes_with_bit : (l : List ℕ) (i y : ℕ) → y < 2 → IsBytes l → IsBytes (with_bit l i y)
bytes_with_bit l i y hy h j = go (kept_or-put l i y j)
  where
    go : Kept-or-put l i y j → get_or (with_bit l i y) j 0 < 256
    go (inl e) = rw e (h j)
    go (inr e) = rw e.1 (put_bit-lt (get_or l j 0) (7 - i % 8) y 8 (h j) (omega arith) hy)

bit_same : (l : List ℕ) (i y : ℕ) → y < 2 → i < 8 * length l → bit_at (with_bit l i y) i ≡ y
unfolding bit_at
bit_same l i y hy h = rw (byte-with_bit l i y (omega arith)) (put_bit_same (get_or l (i / 8) 0) (7 - i % 8) y hy)

bit-other : (l : List ℕ) (i y j : ℕ) → y < 2 → j ≢ i → bit_at (with_bit l i y) j ≡ bit_at l j
unfolding bit_at
bit-other l i y j hy ne = go (kept_or-put l i y (j / 8))
  where
    go : Kept-or-put l i y (j / 8) → bit_at (with_bit l i y) j ≡ bit_at l j
    go (inl e) = rw e
    go (inr e) = rw e.1 (put_bit-other (get_or l (j / 8) 0) (7 - i % 8) y (7 - j % 8) hy (λ same. ne (omega (arith, e.0))))

-- ---- a field written

two_pos : 0 < 2
two_pos = omega arith

pub length-with_field : (bytes : List ℕ) (at w x : ℕ) → length (with_field bytes at w x) ≡ length bytes
unfolding with_field
length-with_field bytes at zero x = refl
length-with_field bytes at (suc w) x = length-with_bit (with_field bytes at w (x / 2)) (at + w) (x % 2) ∙ length-with_field bytes at w (x / 2)

pub bytes_with_field : (bytes : List ℕ) (at w x : ℕ) → IsBytes bytes → IsBytes (with_field bytes at w x)
unfolding with_field
bytes_with_field bytes at zero x h = h
bytes_with_field bytes at (suc w) x h = bytes_with_bit (with_field bytes at w (x / 2)) (at + w) (x % 2) (mod-lt x two_pos) (bytes_with_field bytes at w (x / 2) h)

pub bit_out : (bytes : List ℕ) (at w x i : ℕ) → (i < at) ⊎ (at + w ≤ i) → bit_at (with_field bytes at w x) i ≡ bit_at bytes i
unfolding with_field
bit_out bytes at zero x i h = refl
bit_out bytes at (suc w) x i h =
    bit-other (with_field bytes at w (x / 2)) (at + w) (x % 2) i (mod-lt x two_pos) (⊎_elim (λ l e. omega arith) (λ l e. omega arith) h)
    ∙ bit_out bytes at w (x / 2) i (⊎_elim (λ l. inl l) (λ l. inr (omega arith)) h)

pub bit_in : (bytes : List ℕ) (at w x i : ℕ) → i < w → at + w ≤ 8 * length bytes → bit_at (with_field bytes at w x) (at + i) ≡ x / 2 ^ (w - suc i) % 2
unfolding with_field
bit_in bytes at zero x i h fits = absurd (omega arith)
bit_in bytes at (suc w) x i h fits = go (bit_in bytes at w (x / 2) i) (eq-or-lt_of_le h)
  where
    before : List ℕ
    before = with_field bytes at w (x / 2)

    go : (i < w → at + w ≤ 8 * length bytes → bit_at before (at + i) ≡ x / 2 / 2 ^ (w - suc i) % 2)
        → (suc i ≡ suc w) ⊎ (suc i < suc w) → bit_at (with_field bytes at (suc w) x) (at + i) ≡ x / 2 ^ (suc w - suc i) % 2
    go ih (inl e) =
        let same : i ≡ w = omega arith in
        rw (last_div x w i same, same)
        (bit_same before (at + w) (x % 2) (mod-lt x two_pos) (omega (arith, length-with_field bytes at w (x / 2))))
    go ih (inr l) =
        bit-other before (at + w) (x % 2) (at + i) (mod-lt x two_pos) (λ e. omega arith)
        ∙ ih (omega arith) (omega arith)
        ∙ ap (λ (q : ℕ). q % 2) (half-div x w i (omega arith))
