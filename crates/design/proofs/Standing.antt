-- Pieces that stand in bytes one after another: packing makes them stand and keeps the other bits, and they decide their bits. Assumes nothing.
use mathlib.Core.Path.{◌≡◌, refl, sym, ap, ◌∙◌}
use mathlib.Core.Logic.{◌⊎◌, inl, inr, ⊎_elim}
use mathlib.Core.Bool.{true, false}
use mathlib.Core.List.{List, [], ◌∷◌}
use Prim.Native.Nat.{ℕ, zero, suc, ◌+◌, ◌-◌, ◌*◌, ◌/◌, ◌%◌, ◌^◌, ◌≤◌, ◌<◌}
use native.Mathlib.Omega.{arith}
use lib.Dec.{ltb}
use lib.ListN.{length, get_or}
use borrow.Author.Tests.{ltb-true, ltb-false}
use Rattle.fields.specs.Field.{bit_at, field, with_field}
use Rattle.fields.proofs.Writes.{IsBytes, length-with_field, bytes_with_field, bit_out}
use Rattle.fields.proofs.Laws.{field_in, field-bit, field_ext}
use Rattle.design.specs.Shelf.{Piece, packed, numbers_in}
use Rattle.design.proofs.Counting.{decided}
use Rattle.design.proofs.Packing.{bits_of}

-- the pieces stand one after another from bit `at` on
abbrev pub Standing : List ℕ → ℕ → List Piece → Type 0
Standing s at [] = Unit {0}
Standing s at (x ∷ pieces) = (field s at x.width ≡ x.value) × Standing s (at + x.width) pieces

-- each value fits its width
abbrev pub Fitting : List Piece → Type 0
Fitting [] = Unit {0}
Fitting (x ∷ pieces) = (x.value < 2 ^ x.width) × Fitting pieces

-- ---- packing

pub bytes_packed : (bytes : List ℕ) (at : ℕ) (l : List Piece) → IsBytes bytes → IsBytes (packed bytes at l)
unfolding packed
bytes_packed bytes at [] h = h
bytes_packed bytes at (x ∷ l) h =
    bytes_packed (with_field bytes at x.width x.value) (at + x.width) l (bytes_with_field bytes at x.width x.value h)

pub packed_out : (bytes : List ℕ) (at : ℕ) (l : List Piece) (i : ℕ) → (i < at) ⊎ (at + bits_of l ≤ i) → bit_at (packed bytes at l) i ≡ bit_at bytes i
unfolding packed bits_of
packed_out bytes at [] i h = refl
packed_out bytes at (x ∷ l) i h =
    packed_out (with_field bytes at x.width x.value) (at + x.width) l i (⊎_elim (λ b. inl (omega arith)) (λ a. inr (omega arith)) h)
    ∙ bit_out bytes at x.width x.value i (⊎_elim (λ b. inl b) (λ a. inr (omega arith)) h)

pub packed_stands : (bytes : List ℕ) (at : ℕ) (l : List Piece) → Fitting l → at + bits_of l ≤ 8 * length bytes → Standing (packed bytes at l) at l
unfolding packed bits_of
packed_stands bytes at [] f h = tt
packed_stands bytes at (x ∷ l) f h = (first, packed_stands next (at + x.width) l f.1 (omega (arith, length-with_field bytes at x.width x.value)))
  where
    next : List ℕ
    next = with_field bytes at x.width x.value

    first : field (packed next (at + x.width) l) at x.width ≡ x.value
    first =
        field_ext (packed next (at + x.width) l) next at at x.width (λ i m. packed_out next (at + x.width) l (at + i) (inl (omega arith)))
        ∙ field_in bytes at x.width x.value f.0 (omega arith)

-- ---- the bits of pieces that stand

pub standing_bits : (a b : List ℕ) (at : ℕ) (l : List Piece) → Standing a at l → Standing b at l
    → (i : ℕ) → at ≤ i → i < at + bits_of l → bit_at a i ≡ bit_at b i
unfolding bits_of
standing_bits a b at [] p q i h m = absurd (omega arith)
standing_bits a b at (x ∷ l) p q i h m = go (decided (ltb i (at + x.width))) (standing_bits a b (at + x.width) l p.1 q.1 i)
  where
    w : ℕ
    w = x.width

    bit : (j : ℕ) → j < w → bit_at a (at + j) ≡ bit_at b (at + j)
    bit j n =
        sym (field-bit a at w j n) ∙ ap (λ (y : ℕ). y / 2 ^ (w - suc j) % 2) (p.0 ∙ sym q.0) ∙ field-bit b at w j n

    go : (ltb i (at + w) ≡ true) ⊎ (ltb i (at + w) ≡ false) → (at + w ≤ i → i < at + w + bits_of l → bit_at a i ≡ bit_at b i) → bit_at a i ≡ bit_at b i
    go (inl t) r =
        let n : i < at + w = ltb-true i (at + w) t in
        let e : at + (i - at) ≡ i = omega arith in
        rw e at (bit (i - at) (omega arith))
    go (inr t) r = r (ltb-false i (at + w) t) (omega arith)

-- ---- the disk numbers

-- field i of six bits from `at` on is disk number i
abbrev pub Numbered : List ℕ → ℕ → List ℕ → Type 0
Numbered s at disks = (i : ℕ) → i < length disks → field s (at + 6 * i) 6 ≡ get_or disks i 0

first-number : (at : ℕ) → at + 6 * 0 ≡ at
first-number at = omega arith

next_number : (at i : ℕ) → at + 6 * suc i ≡ at + 6 + 6 * i
next_number at i = omega arith

pub numbers_standing : (s : List ℕ) (at : ℕ) (disks : List ℕ) → Standing s at (numbers_in disks) → Numbered s at disks
unfolding numbers_in
numbers_standing s at [] p i h = absurd (omega arith)
numbers_standing s at (d ∷ disks) p zero h = rw (first-number at) p.0
numbers_standing s at (d ∷ disks) p (suc i) h = rw (next_number at i) (numbers_standing s (at + 6) disks p.1 i (omega arith))

pub standing_numbers : (s : List ℕ) (at : ℕ) (disks : List ℕ) → Numbered s at disks → Standing s at (numbers_in disks)
unfolding numbers_in
standing_numbers s at [] f = tt
standing_numbers s at (d ∷ disks) f = (
  rw (first-number at) at (f 0 (omega arith)),
  standing_numbers s (at + 6) disks (λ i h. rw (next_number at i) at (f (suc i) (omega arith))),
)

pub numbers_fit : (disks : List ℕ) → ((i : ℕ) → i < length disks → get_or disks i 0 < 64) → Fitting (numbers_in disks)
unfolding numbers_in
numbers_fit [] h = tt
numbers_fit (d ∷ disks) h = (h 0 (omega arith), numbers_fit disks (λ i l. h (suc i) (omega arith)))
