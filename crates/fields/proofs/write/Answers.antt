-- `write` meets its contract. The loop's invariant: the bytes are those of entry with the value's leading bits in the part of
-- the field passed. Assumes nothing.
use mathlib.Core.Bool.{true, false, and-false}
use mathlib.Core.List.{List}
use mathlib.Core.Path.{◌≡◌, refl, sym, ap, ap₂, ◌∙◌}
use Prim.Native.Nat.{ℕ, suc, ◌+◌, ◌-◌, ◌/◌, ◌%◌, ◌^◌, ◌≤◌, ◌<◌}
use native.Mathlib.Nat.{div-one, div-lt_iff_lt-mul, le-div_iff_mul-le}
use native.Mathlib.Numerals.{add-one}
use native.Mathlib.Omega.{arith}
use borrow.Author.Tests.{le-ltb}
use lib.ListN.{length, get_or, set}
use lib.Pow.{pow_pos, shr-shr}
use Rattle.std.specs.Prelude.{Err}
use Rattle.fields.specs.Field.{bit_at, with_bit, with_field, is_field, takes, Wrote}
use Rattle.fields.proofs.Bits.{put_bit, byte_of, place_of}
use Rattle.fields.proofs.Writes.{Inside, length-with_field}
use Rattle.fields.proofs.Laws.{is_field_iff, takes_true}
use Rattle.fields.proofs.write.Goals as goal
use Rattle.fields.proofs.write.Goals.{At-loop-done, Else-not-is_field}

-- ---- what is refused
no_field : (bytes : List ℕ) (at w x : ℕ) → is_field bytes at w ≡ false → takes bytes at w x ≡ false
unfolding takes
no_field bytes at w x e = rw e

too_wide : (bytes : List ℕ) (at w x : ℕ) → 0 < x / 2 ^ w → takes bytes at w x ≡ false
unfolding takes
too_wide bytes at w x h =
    let wide : 2 ^ w ≤ x = omega (arith, (le-div_iff_mul-le {x = 1} (pow_pos w)).0 h) in
    rw (le-ltb x (2 ^ w) wide) (and-false (is_field bytes at w))

refused : (bytes : List ℕ) (at w x : ℕ) → takes bytes at w x ≡ false → Wrote bytes at w x (Err (record {})) bytes
refused bytes at w x e = record { answers = rw e; leaves = rw e }

pub returns-then-not-is_field : goal.returns-then-not-is_field
returns-then-not-is_field c =
    let args = c.args in
    refused args.bytes.now args.at args.width args.value
    (no_field args.bytes.now args.at args.width args.value
    (sym c.is_field.ensures ∙ c.if-not-is_field.true))

-- past the first test the field is inside
inside : (c : Else-not-is_field)
    → Inside c.args.bytes.now c.args.at c.args.width
inside c =
    let args = c.args in
    (is_field_iff args.bytes.now args.at args.width).0 (sym c.is_field.ensures ∙ c.if-not-is_field.false)

pub overflow_shr-value : goal.overflow_shr-value
overflow_shr-value c = omega (arith, inside c)

pub returns-then-value-width-gt0 : goal.returns-then-value-width-gt0
returns-then-value-width-gt0 c =
    let args = c.args in
    refused args.bytes.now args.at args.width args.value (too_wide args.bytes.now args.at args.width args.value c.if-value-width-gt0.true)

-- ---- what is written
pub loop-done-init : goal.loop-done-init
unfolding with_field
loop-done-init c = (omega arith, refl)

pub overflow_add-bit : goal.overflow_add-bit
overflow_add-bit c = omega (arith, inside (goal.at.overflow_add-bit c).Else-not-is_field)

pub overflow_add-byte : goal.overflow_add-byte
overflow_add-byte c = omega (arith, inside (goal.at.overflow_add-byte c).Else-not-is_field)

narrow : (x w : ℕ) → x / 2 ^ w ≤ 0 → x < 2 ^ w
narrow x w h =
    let l : x / 2 ^ w < 1 = omega arith in
    omega (arith, (div-lt_iff_lt-mul (pow_pos w)).0 l)

same : (c : At-loop-done) → length c.loop-done.bytes ≡ length c.args.bytes.now
same c =
    let args = c.args in
    rw c.loop-done.invariant.1 (length-with_field args.bytes.now args.at c.loop-done.done (args.value / 2 ^ (args.width - c.loop-done.done)))

pub bounds-bytes-byte : goal.bounds-bytes-byte
bounds-bytes-byte c = omega (arith, inside (goal.at.bounds-bytes-byte c).Else-not-is_field, same (goal.at.bounds-bytes-byte c).At-loop-done)

pub overflow_shr-value-in-loop-done : goal.overflow_shr-value-in-loop-done
overflow_shr-value-in-loop-done c = omega (arith, inside (goal.at.overflow_shr-value-in-loop-done c).Else-not-is_field)

pub bounds-bytes-byte-in-loop-done : goal.bounds-bytes-byte-in-loop-done
bounds-bytes-byte-in-loop-done c = omega (arith, inside (goal.at.bounds-bytes-byte-in-loop-done c).Else-not-is_field, same (goal.at.bounds-bytes-byte-in-loop-done c).At-loop-done)

pub overflow_step-done : goal.overflow_step-done
overflow_step-done c = omega (arith, inside (goal.at.overflow_step-done c).Else-not-is_field)

-- one turn: the store is that of one more bit
turn : (bytes : List ℕ) (at w x i : ℕ) (l : List ℕ) → i < w → l ≡ with_field bytes at i (x / 2 ^ (w - i))
    → set l (at / 8 + (at % 8 + i) / 8) (put_bit (get_or l (at / 8 + (at % 8 + i) / 8) 0) (7 - (at % 8 + i) % 8) (x / 2 ^ (w - 1 - i) % 2))
    ≡ with_field bytes at (i + 1) (x / 2 ^ (w - (i + 1)))
unfolding with_field with_bit bit_at
turn bytes at w x i l h e =
    let here : w - 1 - i ≡ w - suc i = omega arith in
    let next : w - suc i + 1 ≡ w - i = omega arith in
    let half : x / 2 ^ (w - suc i) / 2 ≡ x / 2 ^ (w - i) = shr-shr x (w - suc i) 1 ∙ ap (λ (m : ℕ). x / 2 ^ m) next in
    rw (add-one, half, ← e, byte_of at i, place_of at i, here)

pub loop-done-preserved : goal.loop-done-preserved
loop-done-preserved c =
    let args = c.args in
    let loop = c.loop-done in (
      omega arith,
      rw c.with_bit.ensures (turn args.bytes.now args.at args.width args.value loop.done loop.bytes c.loop-done-test.true loop.invariant.1),
    )

pub shape_of-bytes : goal.shape_of-bytes
shape_of-bytes c = same (goal.at.shape_of-bytes c).At-loop-done

pub returns : goal.returns
returns c =
    let args = c.args in
    let loop = c.loop-done in
    let e : takes args.bytes.now args.at args.width args.value ≡ true =
    takes_true args.bytes.now args.at args.width args.value (inside (goal.at.returns c).Else-not-is_field) (narrow args.value args.width c.if-value-width-gt0.false) in
    let end : loop.done ≡ args.width = omega arith in
    let none : args.width - loop.done ≡ 0 = omega arith in
    record {
      answers = rw e;
      leaves =
          rw e
          (loop.invariant.1
          ∙ ap₂ (with_field args.bytes.now args.at) end (ap (λ (m : ℕ). args.value / 2 ^ m) none ∙ div-one args.value));
    }
