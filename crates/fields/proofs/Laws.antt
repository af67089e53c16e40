-- What a field that is read spells, that bits decide the bytes, and that the promises leave no choice. Assumes nothing.
use mathlib.Core.Path.{◌≡◌, refl, sym, ap, ◌∙◌}
use mathlib.Core.Logic.{◌⊎◌, inl, inr, ⊎_elim, ◌↔◌}
use mathlib.Core.Bool.{true, ◌&&◌, and-eq-true_iff}
use mathlib.Core.List.{List}
use Prim.Native.Nat.{ℕ, zero, suc, ◌+◌, ◌-◌, ◌*◌, ◌/◌, ◌%◌, ◌^◌, ◌≤◌, ◌<◌}
use native.Mathlib.Nat.{pow-suc, eq-or-lt_of_le}
use native.Mathlib.Omega.{arith}
use borrow.Author.Tests.{le-leb, leb-true, lt-ltb}
use lib.Dec.{leb}
use lib.ListN.{length, get_or}
use lib.Pow.{pow_pos}
use lib.Seq.{ext_get_or}
use Rattle.std.specs.Prelude.{Option, Some, Result, Ok, ⊤}
use Rattle.fields.specs.declared.NoField.{NoField}
use Rattle.fields.specs.Field.{bit_at, field, with_field, is_field, found, takes, Wrote}
use Rattle.fields.proofs.Bits.{half-div, last_div, zero_bit}
use Rattle.fields.proofs.Writes.{IsBytes, Inside, bit-lt, bit_out, bit_in}

-- ---- a field read

pub field-bit : (bytes : List ℕ) (at w i : ℕ) → i < w → field bytes at w / 2 ^ (w - suc i) % 2 ≡ bit_at bytes (at + i)
unfolding field
field-bit bytes at zero i h = absurd (omega arith)
field-bit bytes at (suc w) i h = go (field-bit bytes at w i) (eq-or-lt_of_le h)
  where
    go : (i < w → field bytes at w / 2 ^ (w - suc i) % 2 ≡ bit_at bytes (at + i)) → (suc i ≡ suc w) ⊎ (suc i < suc w)
        → field bytes at (suc w) / 2 ^ (suc w - suc i) % 2 ≡ bit_at bytes (at + i)
    go ih (inl e) =
        let same : i ≡ w = omega arith in
        rw (last_div (field bytes at (suc w)) w i same, same) (omega (arith, bit-lt bytes (at + w)))
    go ih (inr l) =
        let half : field bytes at (suc w) / 2 ≡ field bytes at w = omega (arith, bit-lt bytes (at + w)) in
        rw (← half-div (field bytes at (suc w)) w i (omega arith), half) (ih (omega arith))

pub field_ext : (a b : List ℕ) (at at' w : ℕ) → ((i : ℕ) → i < w → bit_at a (at + i) ≡ bit_at b (at' + i)) → field a at w ≡ field b at' w
unfolding field
field_ext a b at at' zero same = refl
field_ext a b at at' (suc w) same =
    let before : field a at w ≡ field b at' w = field_ext a b at at' w (λ i h. same i (omega arith)) in
    omega (arith, same w (omega arith))

-- the number whose bits stand in the field
pub field_bits : (bytes : List ℕ) (at w x : ℕ) → x < 2 ^ w → ((i : ℕ) → i < w → bit_at bytes (at + i) ≡ x / 2 ^ (w - suc i) % 2) → field bytes at w ≡ x
unfolding field
field_bits bytes at zero x h bits = omega arith
field_bits bytes at (suc w) x h bits =
    let double : x < 2 ^ w * 2 = rw pow-suc at h in
    let before : field bytes at w ≡ x / 2 =
    field_bits bytes at w (x / 2) (omega arith)
    (λ i l. bits i (omega arith) ∙ ap (λ (q : ℕ). q % 2) (sym (half-div x w i l))) in
    let last : bit_at bytes (at + w) ≡ x % 2 = bits w (omega arith) ∙ ap (λ (q : ℕ). q % 2) (last_div x w w refl) in
    omega arith

pub field_in : (bytes : List ℕ) (at w x : ℕ) → x < 2 ^ w → at + w ≤ 8 * length bytes → field (with_field bytes at w x) at w ≡ x
field_in bytes at w x h fits = field_bits (with_field bytes at w x) at w x h (λ i l. bit_in bytes at w x i l fits)

pub field_out : (bytes : List ℕ) (at w x at' w' : ℕ) → (at' + w' ≤ at) ⊎ (at + w ≤ at') → field (with_field bytes at w x) at' w' ≡ field bytes at' w'
field_out bytes at w x at' w' apart =
    field_ext (with_field bytes at w x) bytes at' at' w'
    (λ i h. bit_out bytes at w x (at' + i) (⊎_elim (λ l. inl (omega arith)) (λ l. inr (omega arith)) apart))

pub field_zero : (bytes : List ℕ) (at w : ℕ) → (field bytes at w ≡ 0) ↔ ((i : ℕ) → i < w → bit_at bytes (at + i) ≡ 0)
field_zero bytes at w = (
  λ e i h. sym (field-bit bytes at w i h) ∙ ap (λ (n : ℕ). n / 2 ^ (w - suc i) % 2) e ∙ zero_bit (w - suc i),
  λ bits. field_bits bytes at w 0 (pow_pos w) (λ i h. bits i h ∙ sym (zero_bit (w - suc i))),
)

-- ---- bytes by their bits

pub field-byte : (bytes : List ℕ) (i : ℕ) → get_or bytes i 0 < 256 → field bytes (8 * i) 8 ≡ get_or bytes i 0
unfolding bit_at
field-byte bytes i h = field_bits bytes (8 * i) 8 (get_or bytes i 0) h bits
  where
    bits : (j : ℕ) → j < 8 → bit_at bytes (8 * i + j) ≡ get_or bytes i 0 / 2 ^ (8 - suc j) % 2
    bits j l =
        let byte : (8 * i + j) / 8 ≡ i = omega arith in
        let weight : 7 - (8 * i + j) % 8 ≡ 8 - suc j = omega arith in
        rw (weight, byte)

pub ext_bits : (a b : List ℕ) → length a ≡ length b → IsBytes a → IsBytes b → ((i : ℕ) → i < 8 * length a → bit_at a i ≡ bit_at b i) → a ≡ b
ext_bits a b e ha hb same =
    ext_get_or 0 a b e
    (λ i h.
    sym (field-byte a i (ha i)) ∙ field_ext a b (8 * i) (8 * i) 8 (λ j l. same (8 * i + j) (omega arith)) ∙ field-byte b i (hb i))

-- ---- when there is a field

pub is_field_iff : (bytes : List ℕ) (at w : ℕ) → (is_field bytes at w ≡ true) ↔ Inside bytes at w
unfolding is_field
is_field_iff bytes at w = (
  λ e.
      let both = (and-eq-true_iff (leb 1 w && leb w 32) (leb (at + w) (8 * length bytes))).0 e in
      let width = (and-eq-true_iff (leb 1 w) (leb w 32)).0 both.0 in
      record { least = leb-true 1 w width.0; most = leb-true w 32 width.1; ends = leb-true (at + w) (8 * length bytes) both.1 },
  λ h. rw (le-leb 1 w h.least, le-leb w 32 h.most, le-leb (at + w) (8 * length bytes) h.ends),
)

pub found-value : (bytes : List ℕ) (at w : ℕ) → Inside bytes at w → found bytes at w ≡ Some (field bytes at w)
unfolding found
found-value bytes at w h = rw ((is_field_iff bytes at w).1 h)

pub takes_true : (bytes : List ℕ) (at w x : ℕ) → Inside bytes at w → x < 2 ^ w → takes bytes at w x ≡ true
unfolding takes
takes_true bytes at w x h l = rw ((is_field_iff bytes at w).1 h, lt-ltb x (2 ^ w) l)

pub wrote_done : (bytes : List ℕ) (at w x : ℕ) (r : Result ⊤ NoField) (after : List ℕ) → Inside bytes at w → x < 2 ^ w → Wrote bytes at w x r after
    → (r ≡ Ok tt) × (after ≡ with_field bytes at w x)
wrote_done bytes at w x r after h l p =
    let e = takes_true bytes at w x h l in
    (rw e at p.answers, rw e at p.leaves)

-- ---- the promises leave no choice

pub found_unique : (bytes : List ℕ) (at width : ℕ) (r r' : Option ℕ) → r ≡ found bytes at width → r' ≡ found bytes at width → r ≡ r'
found_unique bytes at width r r' p q = p ∙ sym q

pub wrote_unique : (bytes : List ℕ) (at width x : ℕ) (r r' : Result ⊤ NoField) (after after' : List ℕ)
    → Wrote bytes at width x r after → Wrote bytes at width x r' after' → (r ≡ r') × (after ≡ after')
wrote_unique bytes at width x r r' after after' p q = (p.answers ∙ sym q.answers, p.leaves ∙ sym q.leaves)
