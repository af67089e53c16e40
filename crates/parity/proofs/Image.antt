-- The units of a row of N units of U bytes, and the row with another unit. Assumes nothing.
use mathlib.Core.Path.{◌≡◌, sym, ap, ap₂, ◌∙◌}
use mathlib.Core.Logic.{◌≢◌, ◌⊎◌, inl, inr}
use mathlib.Core.List.{List, ◌++◌}
use Prim.Native.Nat.{ℕ, zero, suc, ◌+◌, ◌*◌, ◌/◌, ◌%◌, ◌≤◌, ◌<◌}
use native.Mathlib.Nat.{mod-lt, div-add-mod', div-lt_iff_lt-mul, mul-le-mul_right, suc-mul, zero-mul, eq-or-lt_of_le}
use native.Mathlib.Omega.{arith}
use lib.ListN.{length, take, drop, get_or, length-append, length-drop}
use lib.Seq.{ext_get_or, take_all, take-append-le, drop-append-le, drop_at}
use Rattle.parity.specs.Units.{unit_at, units_of}
use Rattle.parity.specs.inner.Stores.{put_unit}
use Rattle.parity.proofs.Put.{unit-byte, unit_size, put_size, put_here, put_there}

-- ---- a unit

-- unit n lies within the row
pub unit_fits : (U N : ℕ) (row : List ℕ) → length row ≡ N * U → (n : ℕ) → n < N → n * U + U ≤ length row
unit_fits U N row len n h = omega (arith, mul-le-mul_right U h)

pub unit-length : (U N : ℕ) (row : List ℕ) → length row ≡ N * U → (n : ℕ) → n < N → length (unit_at U row n) ≡ U
unit-length U N row len n h = unit_size U row n (unit_fits U N row len n h)

-- rows are equal when their units are
pub image_ext : (U N : ℕ) → 0 < U → (a b : List ℕ) → length a ≡ N * U → length b ≡ N * U
    → ((n : ℕ) → n < N → unit_at U a n ≡ unit_at U b n) → a ≡ b
image_ext U N pos a b la lb h = ext_get_or 0 a b (la ∙ sym lb) same
  where
    byte : (c : List ℕ) (i : ℕ) → get_or c i 0 ≡ get_or (unit_at U c (i / U)) (i % U) 0
    byte c i =
        ap (λ (j : ℕ). get_or c j 0) (sym (div-add-mod' i U)) ∙ sym (unit-byte U c (i / U) (i % U) (mod-lt i pos))

    same : (i : ℕ) → i < length a → get_or a i 0 ≡ get_or b i 0
    same i l =
        let hn : i / U < N = (div-lt_iff_lt-mul pos).1 (omega arith) in
        byte a i ∙ ap (λ (c : List ℕ). get_or c (i % U) 0) (h (i / U) hn) ∙ sym (byte b i)

-- ---- the row with x for unit n

module _ (U N : ℕ) (row : List ℕ) (len : length row ≡ N * U) (n : ℕ) (x : List ℕ) (hn : n < N) (hx : length x ≡ U) where
  fits : n * U + U ≤ length row
  fits = unit_fits U N row len n hn

  pub put-length : length (put_unit U row n x) ≡ N * U
  put-length = put_size U row n x fits hx ∙ len

  pub unit-put_same : unit_at U (put_unit U row n x) n ≡ x
  unit-put_same = put_here U row n x fits hx

  pub unit-put-other : (m : ℕ) → m < N → m ≢ n → unit_at U (put_unit U row n x) m ≡ unit_at U row m
  unit-put-other m hm ne = put_there U row n x fits hx m (unit_fits U N row len m hm) ne

-- ---- units one after another

module _ (U : ℕ) (f : ℕ → List ℕ) where
  pub units-length : (n : ℕ) → ((m : ℕ) → m < n → length (f m) ≡ U) → length (units_of f n) ≡ n * U
  unfolding units_of
  units-length zero h = sym (zero-mul U)
  units-length (suc n) h =
      length-append (units_of f n) (f n)
      ∙ ap₂ ◌+◌ (units-length n (λ m l. h m (omega arith))) (h n (omega arith))
      ∙ sym (suc-mul n U)

  units_next : (n m : ℕ) → length (units_of f n) ≡ n * U → length (f n) ≡ U → m < suc n → (m < n → unit_at U (units_of f n) m ≡ f m) → unit_at U (units_of f (suc n)) m ≡ f m
  unfolding units_of unit_at
  units_next n m len size h earlier = go (eq-or-lt_of_le h)
    where
      go : (suc m ≡ suc n) ⊎ (suc m < suc n) → take U (drop (m * U) (units_of f n ++ f n)) ≡ f m
      go (inl e) =
          let q : m ≡ n = omega arith in
          rw q (ap (take U) (drop_at (units_of f n) (f n) (n * U) len) ∙ take_all U (f n) (omega arith))
      go (inr l) =
          let fits : suc m * U ≤ n * U = mul-le-mul_right U (omega arith) in
          ap (take U) (drop-append-le (m * U) (units_of f n) (f n) (omega arith))
          ∙ take-append-le U (drop (m * U) (units_of f n)) (f n) (omega (arith, length-drop (m * U) (units_of f n)))
          ∙ earlier (omega arith)

  pub units-unit : (n : ℕ) → ((m : ℕ) → m < n → length (f m) ≡ U) → (m : ℕ) → m < n → unit_at U (units_of f n) m ≡ f m
  units-unit zero h m l = absurd (omega arith)
  units-unit (suc n) h m l =
      let some : (m : ℕ) → m < n → length (f m) ≡ U = λ m l. h m (omega arith) in
      units_next n m (units-length n some) (h n (omega arith)) l (units-unit n some m)
