-- The bytes that a loop over a unit finds, and those of an exclusive-or; whether all are zero. Assumes nothing.
use mathlib.Core.Path.{◌≡◌, refl, sym, ap, ◌∙◌}
use mathlib.Core.Logic.{◌⊎◌, inl, inr, ⊎_elim}
use mathlib.Core.Bool.{Bool, ◌&&◌, and-true, and-false}
use mathlib.Core.List.{List, [], ◌∷◌}
use Prim.Native.Nat.{ℕ, zero, suc, ◌+◌, ◌*◌, ◌≤◌, ◌<◌}
use native.Mathlib.Omega.{arith}
use lib.Bits.{bit_xor, bit_or, xor_zero_l, xor_zero_r}
use lib.Dec.{eqb}
use lib.ListN.{get_or}
use borrow.Author.Tests.{eq-eqb, eqb-true, eqb-false}
use Rattle.std.specs.List.{fold}
use Rattle.design.proofs.Counting.{both, both_of, alike}
use Rattle.design.proofs.ShelfTests.{or_zero}
use Rattle.design.proofs.Writing.{Begun}
use Rattle.parity.specs.Units.{unit_at, xor_u, is_zero}
use Rattle.parity.proofs.Cases.{cases}
use Rattle.parity.proofs.Put.{paste_outside, unit-byte, apart}

pub byte-xor : (x y : List ℕ) (i : ℕ) → get_or (xor_u x y) i 0 ≡ bit_xor (get_or x i 0) (get_or y i 0)
unfolding xor_u
byte-xor [] y i = sym (xor_zero_l (get_or y i 0))
byte-xor (a ∷ x) [] i = sym (xor_zero_r (get_or (a ∷ x) i 0))
byte-xor (a ∷ x) (b ∷ y) zero = refl
byte-xor (a ∷ x) (b ∷ y) (suc i) = byte-xor x y i

-- what stands before the part, and what the loop has not reached, is as it was
pub begun_rest : (was : List ℕ) (at : ℕ) (s : List ℕ) (n : ℕ) (now : List ℕ) (i : ℕ) → Begun was at s n now i
    → (j : ℕ) → (j < at) ⊎ (at + i ≤ j) → get_or now j 0 ≡ get_or was j 0
begun_rest was at s n now i b j h = ap (λ (l : List ℕ). get_or l j 0) b.is ∙ paste_outside was at s i (omega arith) (omega arith) j h

-- a loop over unit `to` that has come to byte i: that byte of any unit is as it was
pub byte_unread : (U : ℕ) (was : List ℕ) (to : ℕ) (s now : List ℕ) (i : ℕ) → Begun was (to * U) s U now i → i < U → (m : ℕ)
    → get_or now (m * U + i) 0 ≡ get_or (unit_at U was m) i 0
byte_unread U was to s now i b l m =
    begun_rest was (to * U) s U now i b (m * U + i)
    (cases (eqb m to)
    (λ e. inr (rw (eqb-true m to e) (omega arith)))
    (λ e. ⊎_elim inl (λ h. inr (omega arith)) (apart U m to i (eqb-false m to e) l)))
    ∙ sym (unit-byte U was m i l)

-- ---- all zeros

or_zero_test : (a b : ℕ) → eqb (bit_or a b) 0 ≡ eqb a 0 && eqb b 0
or_zero_test a b =
    alike (eqb (bit_or a b) 0) (eqb a 0 && eqb b 0)
    (λ t. let zero = (or_zero a b).0 (eqb-true (bit_or a b) 0 t) in both_of (eq-eqb a 0 zero.0) (eq-eqb b 0 zero.1))
    (λ t. let zero = both (eqb a 0) (eqb b 0) t in eq-eqb (bit_or a b) 0 ((or_zero a b).1 (eqb-true a 0 zero.0, eqb-true b 0 zero.1)))

-- bytes joined to what is there already
pub zero_joined : (a : ℕ) (x : List ℕ) → eqb (fold bit_or a x) 0 ≡ eqb a 0 && is_zero x
unfolding is_zero
zero_joined a [] = sym (and-true (eqb a 0))
zero_joined a (b ∷ x) = zero_joined (bit_or a b) x ∙ ap (λ (t : Bool). t && is_zero x) (or_zero_test a b) ∙ cases (eqb b 0) (λ e. rw (e, and-true (eqb a 0))) (λ e. rw (e, and-false (eqb a 0)))
