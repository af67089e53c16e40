-- A unit of a row as a part of it, and the row with another unit, where the unit lies within the row. Assumes nothing.
use mathlib.Core.Path.{◌≡◌, sym, ap, ap₂, ◌∙◌}
use mathlib.Core.Logic.{◌≢◌, ◌⊎◌, inl, inr}
use mathlib.Core.List.{List, ◌++◌, append_assoc, append-nil}
use Prim.Native.Nat.{ℕ, suc, ◌+◌, ◌-◌, ◌*◌, ◌≤◌, ◌<◌}
use native.Mathlib.Nat.{zero-add, zero-mul, mul-le-mul_right}
use native.Mathlib.Omega.{arith}
use lib.Dec.{ltb}
use lib.ListN.{length, take, drop, get_or, length-drop}
use lib.Seq.{paste, length-paste, drop-paste, take_at, drop_at, drop-drop, drop-length, length-take-le, take_all, get_or-take, get_or-drop, ext_get_or}
use borrow.Author.Tests.{ltb-true, ltb-false}
use borrow.Rule.Slice.PartMut.{mid_of, put_mid}
use Rattle.parity.specs.Units.{unit_at}
use Rattle.parity.specs.inner.Stores.{put_unit}
use Rattle.parity.proofs.Cases.{cases}

-- ---- a list with the n elements from `at` on replaced

module _ (d : List ℕ) (at : ℕ) (s : List ℕ) (n : ℕ) (room : at + n ≤ length d) (size : n ≤ length s) where
  take-before : take at (paste d at s n) ≡ take at d
  take-before =
      let front : length (take at d) ≡ at = length-take-le at d (omega arith) in
      ap (take at) (append_assoc (take at d) (take n s) (drop (at + n) d)) ∙ take_at (take at d) (take n s ++ drop (at + n) d) at front

  -- an element before them, or after them
  pub paste_outside : (j : ℕ) → (j < at) ⊎ (at + n ≤ j) → get_or (paste d at s n) j 0 ≡ get_or d j 0
  paste_outside j (inl h) =
      sym (get_or-take at (paste d at s n) j 0 h) ∙ ap (λ (l : List ℕ). get_or l j 0) take-before ∙ get_or-take at d j 0 h
  paste_outside j (inr h) =
      let apart : j ≡ at + n + (j - (at + n)) = omega arith in
      rw apart
      (sym (get_or-drop (at + n) (paste d at s n) (j - (at + n)) 0)
      ∙ ap (λ (l : List ℕ). get_or l (j - (at + n)) 0) (drop-paste d at s n (omega arith) size)
      ∙ get_or-drop (at + n) d (j - (at + n)) 0)

  -- others put in their place
  paste_again : (t : List ℕ) → paste (paste d at s n) at t n ≡ paste d at t n
  paste_again t = ap₂ (λ (x y : List ℕ). x ++ take n t ++ y) take-before (drop-paste d at s n (omega arith) size)

  drop-before : drop at (paste d at s n) ≡ take n s ++ drop (at + n) d
  drop-before =
      let front : length (take at d) ≡ at = length-take-le at d (omega arith) in
      ap (drop at) (append_assoc (take at d) (take n s) (drop (at + n) d)) ∙ drop_at (take at d) (take n s ++ drop (at + n) d) at front

-- ---- a unit

pub unit-byte : (U : ℕ) (row : List ℕ) (n z : ℕ) → z < U → get_or (unit_at U row n) z 0 ≡ get_or row (n * U + z) 0
unfolding unit_at
unit-byte U row n z h = get_or-take U (drop (n * U) row) z 0 h ∙ get_or-drop (n * U) row z 0

-- units are equal when their bytes are
pub unit_ext : (U : ℕ) (x y : List ℕ) → length x ≡ U → length y ≡ U → ((z : ℕ) → z < U → get_or x z 0 ≡ get_or y z 0) → x ≡ y
unit_ext U x y p q h = ext_get_or 0 x y (p ∙ sym q) (λ z l. h z (omega arith))

module _ (U : ℕ) (row : List ℕ) (n : ℕ) where
  pub unit_size : n * U + U ≤ length row → length (unit_at U row n) ≡ U
  unfolding unit_at
  unit_size fits = length-take-le U (drop (n * U) row) (omega (arith, length-drop (n * U) row))

  -- the part of the row from n·U to n·U + U is lent
  pub part-unit : mid_of (n * U) (n * U + U - n * U) row ≡ unit_at U row n
  unfolding unit_at
  part-unit = let k : n * U + U - n * U ≡ U = omega arith in rw k

  pub part_size : n * U + U ≤ length row → length (mid_of (n * U) (n * U + U - n * U) row) ≡ U
  part_size fits = ap length part-unit ∙ unit_size fits

  pub part-put : (x : List ℕ) → length x ≡ U → put_mid (n * U) (n * U + U - n * U) row x ≡ put_unit U row n x
  unfolding put_unit
  part-put x size =
      let k : n * U + U - n * U ≡ U = omega arith in
      rw (k, drop-drop U (n * U) row, take_all U x (omega arith)) (sym (append_assoc (take (n * U) row) x (drop (n * U + U) row)))

-- ---- the row with x for unit n

-- a byte of unit m stands before unit n, or after it
pub apart : (U m n z : ℕ) → m ≢ n → z < U → (m * U + z < n * U) ⊎ (n * U + U ≤ m * U + z)
apart U m n z ne h =
    cases (ltb m n)
    (λ l. inl (omega (arith, mul-le-mul_right U (ltb-true m n l))))
    (λ l. let more : suc n ≤ m = omega (arith, ltb-false m n l) in inr (omega (arith, mul-le-mul_right U more)))

module _ (U : ℕ) (row : List ℕ) (n : ℕ) (x : List ℕ) (fits : n * U + U ≤ length row) (size : length x ≡ U) where
  pub put_size : length (put_unit U row n x) ≡ length row
  unfolding put_unit
  put_size = length-paste row (n * U) x U fits (omega arith)

  pub put_here : unit_at U (put_unit U row n x) n ≡ x
  unfolding put_unit unit_at
  put_here =
      ap (take U) (drop-before row (n * U) x U fits (omega arith))
      ∙ take_at (take U x) (drop (n * U + U) row) U (length-take-le U x (omega arith))
      ∙ take_all U x (omega arith)

  pub put_there : (m : ℕ) → m * U + U ≤ length row → m ≢ n → unit_at U (put_unit U row n x) m ≡ unit_at U row m
  unfolding put_unit
  put_there m room ne =
      unit_ext U (unit_at U (put_unit U row n x) m) (unit_at U row m)
      (unit_size U (put_unit U row n x) m (omega (arith, put_size)))
      (unit_size U row m room)
      (λ z h. unit-byte U (put_unit U row n x) m z h
      ∙ paste_outside row (n * U) x U fits (omega arith) (m * U + z) (apart U m n z ne h)
      ∙ sym (unit-byte U row m z h))

  pub put-again : (y : List ℕ) → put_unit U (put_unit U row n x) n y ≡ put_unit U row n y
  unfolding put_unit
  put-again y = paste_again row (n * U) x U fits (omega arith) y

-- a row of one unit
pub put_whole : (U : ℕ) (row x : List ℕ) → length row ≡ U → length x ≡ U → put_unit U row 0 x ≡ x
unfolding put_unit
put_whole U row x fits size = rw (zero-mul U, zero-add U, ← fits, drop-length row) (append-nil (take (length row) x) ∙ take_all (length row) x (omega arith))
