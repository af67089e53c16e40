-- `with_bit` meets its contract: the bit's weight is part of the byte, and what takes its place leaves a byte. Assumes nothing.
use Prim.Native.Nat.{ℕ, ◌-◌, ◌*◌, ◌/◌, ◌%◌, ◌^◌, ◌≤◌, ◌<◌}
use native.Mathlib.Nat.{mul-le-mul_right}
use native.Mathlib.Omega.{arith}
use lib.Pow.{pow_mono}
use Rattle.fields.proofs.Bits.{bit_le, put_bit, put_bit-lt}
use Rattle.fields.proofs.with_bit.Goals as goal
use Rattle.fields.proofs.with_bit.Goals.{After-bit_of}

abbrev byte : After-bit_of → ℕ
byte c = c.args.byte

-- the exponent of the bit's weight
abbrev k : After-bit_of → ℕ
k c = 7 - c.args.place

weighs : (c : After-bit_of) → byte c / 2 ^ k c % 2 * 2 ^ k c ≤ byte c
weighs c = bit_le (byte c) (k c)

is_byte : (c : After-bit_of) → put_bit (byte c) (k c) c.args.y < 256
is_byte c = put_bit-lt (byte c) (k c) c.args.y 8 (omega arith) (omega arith) (omega arith)

pub overflow_mul-result : goal.overflow_mul-result
overflow_mul-result c = rw (c.bit_of.ensures, c.weight_of-weight.ensures) (omega (arith, weighs c))

pub overflow_sub-result : goal.overflow_sub-result
overflow_sub-result c = rw (c.bit_of.ensures, c.weight_of-weight.ensures) (weighs c)

pub overflow_mul-result-2 : goal.overflow_mul-result-2
overflow_mul-result-2 c =
    let one : c.args.y ≤ 1 = omega arith in
    let light : 2 ^ k c ≤ 128 = pow_mono {j = 7} (omega arith) in
    rw c.weight_of-weight.ensures (omega (arith, mul-le-mul_right (2 ^ k c) one))

pub overflow_add-result : goal.overflow_add-result
overflow_add-result c = rw (c.bit_of.ensures, c.weight_of-weight.ensures) (omega (arith, is_byte c))

pub overflow_cast-result-2 : goal.overflow_cast-result-2
overflow_cast-result-2 c = rw (c.bit_of.ensures, c.weight_of-weight.ensures) (omega (arith, is_byte c))

pub returns : goal.returns
returns c = rw (c.bit_of.ensures, c.weight_of-weight.ensures)
