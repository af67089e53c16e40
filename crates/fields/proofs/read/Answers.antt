-- `read` meets its contract. The loop's invariant: the value is that of the field's bits passed. Assumes nothing.
use mathlib.Core.Path.{◌≡◌, refl, sym, ap, ◌∙◌}
use Prim.Native.Nat.{◌+◌, ◌^◌, ◌<◌}
use native.Mathlib.Numerals.{add-one}
use native.Mathlib.Omega.{arith}
use Rattle.std.specs.Prelude.{Some}
use Rattle.fields.specs.Field.{field, bit_at, found}
use Rattle.fields.proofs.Bits.{byte_of, place_of}
use Rattle.fields.proofs.Writes.{Inside, field_fits}
use Rattle.fields.proofs.Laws.{is_field_iff, found-value}
use Rattle.fields.proofs.read.Goals as goal
use Rattle.fields.proofs.read.Goals.{After-bit_of, Else-not-is_field, In-loop-i}

pub returns-then-not-is_field : goal.returns-then-not-is_field
unfolding found
returns-then-not-is_field c = rw (sym c.is_field.ensures ∙ c.if-not-is_field.true)

-- past the test the field is inside
inside : (c : Else-not-is_field)
    → Inside c.args.bytes.now c.args.at c.args.width
inside c =
    let args = c.args in
    (is_field_iff args.bytes.now args.at args.width).0 (sym c.is_field.ensures ∙ c.if-not-is_field.false)

pub loop-i-init : goal.loop-i-init
unfolding field
loop-i-init c = (omega arith, refl)

pub overflow_add-bit : goal.overflow_add-bit
overflow_add-bit c = omega (arith, inside (goal.at.overflow_add-bit c).Else-not-is_field)

value-lt : (c : In-loop-i) → c.loop-i.value < 2 ^ 32
value-lt c =
    let args = c.args in
    rw c.loop-i.invariant.1 (field_fits args.bytes.now args.at c.loop-i.i 32 (omega (arith, inside (goal.at.In-loop-i c).Else-not-is_field)))

pub overflow_mul-value : goal.overflow_mul-value
overflow_mul-value c = omega (arith, value-lt c)

pub overflow_add-at : goal.overflow_add-at
overflow_add-at c = omega (arith, inside (goal.at.overflow_add-at c).Else-not-is_field)

pub bounds-bytes-at : goal.bounds-bytes-at
bounds-bytes-at c = omega (arith, inside (goal.at.bounds-bytes-at c).Else-not-is_field)

-- the bit read is the field's next
bit_is : (c : After-bit_of)
    → c.bit_of.result ≡ bit_at c.args.bytes.now
    (c.args.at + c.loop-i.i)
unfolding bit_at
bit_is c = rw (byte_of, place_of) c.bit_of.ensures

pub overflow_add-value : goal.overflow_add-value
overflow_add-value c = omega (arith, value-lt (goal.at.overflow_add-value c).In-loop-i, c.bit_of.ensures)

pub overflow_step-i : goal.overflow_step-i
overflow_step-i c = omega (arith, inside (goal.at.overflow_step-i c).Else-not-is_field)

pub loop-i-preserved : goal.loop-i-preserved
unfolding field
loop-i-preserved c = (omega arith, rw add-one (omega (arith, bit_is c)))

pub returns : goal.returns
returns c =
    let args = c.args in
    let end : c.loop-i.i ≡ args.width = omega arith in
    ap Some (c.loop-i.invariant.1 ∙ ap (field args.bytes.now args.at) end)
    ∙ sym (found-value args.bytes.now args.at args.width (inside (goal.at.returns c).Else-not-is_field))
