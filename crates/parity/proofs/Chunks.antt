-- A loop over the units of a buffer, one after another: the unit that comes next, and how many there are. Assumes nothing.
use mathlib.Core.Path.{◌≡◌, sym, ap, ◌∙◌}
use mathlib.Core.List.{List, ◌++◌}
use Prim.Native.Nat.{ℕ, ◌+◌, ◌*◌, ◌/◌, ◌≤◌, ◌<◌}
use native.Mathlib.Nat.{suc-mul, zero-mul, mul-div_cancel, div-lt_iff_lt-mul}
use native.Mathlib.Numerals.{add-one}
use native.Mathlib.Omega.{arith}
use lib.Arith.{digits_div}
use lib.ListN.{length, take, drop, length-append, length-drop}
use lib.Seq.{take_at, drop_at, drop-drop}
use Rattle.parity.specs.Units.{unit_at}

-- j units of the buffer have passed, and these bytes are left
pub record Left (U : ℕ) (buffer : List ℕ) (j : ℕ) (rest : List ℕ) : Type 0 where
  pub are : rest ≡ drop (j * U) buffer
  pub passed : j * U ≤ length buffer

pub left_all : (U : ℕ) (buffer : List ℕ) → Left U buffer 0 buffer
left_all U buffer = record { are = rw (zero-mul U); passed = rw (zero-mul U) (omega arith) }

module _ {U : ℕ} {buffer : List ℕ} {j : ℕ} {rest : List ℕ} (L : Left U buffer j rest) where
  left_size : length buffer ≡ j * U + length rest
  left_size = omega (arith, ap length L.are, length-drop (j * U) buffer, L.passed)

  module _ (x after : List ℕ) (cut : rest ≡ x ++ after) (size : length x ≡ U) where
    pub next_fits : j * U + U ≤ length buffer
    next_fits = omega (arith, left_size, ap length cut, length-append x after, size)

    pub next_is : x ≡ unit_at U buffer j
    unfolding unit_at
    next_is = sym (ap (take U) (sym L.are ∙ cut) ∙ take_at x after U size)

    -- it is one of m units
    pub next_below : (m : ℕ) → 0 < U → length buffer ≡ m * U → j < m
    next_below m pos e = let below : j * U / U < m = (div-lt_iff_lt-mul pos).1 (omega (arith, next_fits, e)) in rw (mul-div_cancel j pos) at below

    pub left_next : Left U buffer (j + 1) after
    left_next =
        let more : (j + 1) * U ≡ j * U + U = rw add-one (suc-mul j U) in
        record {
          are = sym (rw more (sym (drop-drop U (j * U) buffer) ∙ ap (drop U) (sym L.are ∙ cut) ∙ drop_at x after U size));
          passed = rw more next_fits;
        }

  pub left_none : length rest < U → j ≡ length buffer / U
  left_none few = sym (ap (λ (n : ℕ). n / U) left_size ∙ digits_div j few)

  -- m units have passed
  pub left_over : (m : ℕ) → 0 < U → length buffer ≡ m * U → length rest < U → j ≡ m
  left_over m pos e few = left_none few ∙ (rw e (mul-div_cancel m pos))
