-- A number that is put is read again, and the others are as they were. Assumes nothing.
use mathlib.Core.Path.{◌≡◌, refl, sym, ap, ◌∙◌}
use mathlib.Core.Logic.{◌≢◌}
use mathlib.Core.List.{List, [], ◌∷◌, ◌++◌}
use Prim.Native.Nat.{ℕ, zero, suc, ◌+◌, ◌*◌, ◌/◌, ◌%◌, ◌≤◌, ◌<◌}
use native.Mathlib.Omega.{arith}
use lib.ListN.{length, get_or, take, set, length-set, get_or-append}
use lib.Seq.{get_or-set_same, get_or-set_other, get_or-take, length-take-le}
use Rattle.host.specs.Numbers.{number_at, with_number, numbered}

pub length-with_number : (bytes : List ℕ) (i x : ℕ) → length (with_number bytes i x) ≡ length bytes
unfolding with_number
length-with_number bytes i x = simp length-set

pub length-numbered : (bytes : List ℕ) (i : ℕ) (l : List ℕ) → length (numbered bytes i l) ≡ length bytes
unfolding numbered
length-numbered bytes i [] = refl
length-numbered bytes i (x ∷ l) = length-numbered (with_number bytes i x) (i + 1) l ∙ length-with_number bytes i x

-- ---- four bytes

module _ (bytes : List ℕ) (at a b c d : ℕ) where
  abbrev one : List ℕ
  one = set bytes at a

  abbrev two : List ℕ
  two = set one (at + 1) b

  abbrev three : List ℕ
  three = set two (at + 2) c

  abbrev four : List ℕ
  four = set three (at + 3) d

  elsewhere : (m : ℕ) → ((t : ℕ) → t < 4 → m ≢ at + t) → get_or four m 0 ≡ get_or bytes m 0
  elsewhere m ne =
      let e : at + 0 ≡ at = omega arith in
      get_or-set_other three (at + 3) m d 0 (ne 3 (omega arith)) ∙ get_or-set_other two (at + 2) m c 0 (ne 2 (omega arith)) ∙ get_or-set_other one (at + 1) m b 0 (ne 1 (omega arith))
      ∙ get_or-set_other bytes at m a 0 (λ q. ne 0 (omega arith) (q ∙ sym e))

  module _ (room : at + 4 ≤ length bytes) where
    first : get_or four at 0 ≡ a
    first =
        get_or-set_other three (at + 3) at d 0 (λ e. omega arith) ∙ get_or-set_other two (at + 2) at c 0 (λ e. omega arith) ∙ get_or-set_other one (at + 1) at b 0 (λ e. omega arith)
        ∙ get_or-set_same bytes at a 0 (omega arith)

    second : get_or four (at + 1) 0 ≡ b
    second =
        get_or-set_other three (at + 3) (at + 1) d 0 (λ e. omega arith) ∙ get_or-set_other two (at + 2) (at + 1) c 0 (λ e. omega arith)
        ∙ get_or-set_same one (at + 1) b 0 (omega (arith, length-set bytes at a))

    third : get_or four (at + 2) 0 ≡ c
    third =
        get_or-set_other three (at + 3) (at + 2) d 0 (λ e. omega arith)
        ∙ get_or-set_same two (at + 2) c 0 (omega (arith, length-set bytes at a, length-set one (at + 1) b))

    fourth : get_or four (at + 3) 0 ≡ d
    fourth = get_or-set_same three (at + 3) d 0 (omega (arith, length-set bytes at a, length-set one (at + 1) b, length-set two (at + 2) c))

-- ---- one number

pub number_same : (bytes : List ℕ) (i x : ℕ) → x < 4294967296 → 4 * i + 4 ≤ length bytes → number_at (with_number bytes i x) i ≡ x
unfolding number_at with_number
number_same bytes i x fits room =
    let a : ℕ = x / 16777216 % 256 in
    let b : ℕ = x / 65536 % 256 in
    let c : ℕ = x / 256 % 256 in
    let d : ℕ = x % 256 in
    let low : x ≡ x / 256 * 256 + d = omega arith in
    let middle : x / 256 ≡ x / 65536 * 256 + c = omega arith in
    let high : x / 65536 ≡ x / 16777216 * 256 + b = omega arith in
    let top : x / 16777216 ≡ a = omega arith in
    rw (first bytes (4 * i) a b c d room, second bytes (4 * i) a b c d room, third bytes (4 * i) a b c d room, fourth bytes (4 * i) a b c d room) (omega arith)

pub number-other : (bytes : List ℕ) (i x j : ℕ) → j ≢ i → number_at (with_number bytes i x) j ≡ number_at bytes j
unfolding number_at with_number
number-other bytes i x j ne =
    let same : (s : ℕ) → s < 4 → get_or (with_number bytes i x) (4 * j + s) 0 ≡ get_or bytes (4 * j + s) 0 =
    λ s l. elsewhere bytes (4 * i) (x / 16777216 % 256) (x / 65536 % 256) (x / 256 % 256) (x % 256) (4 * j + s) (λ t m e. ne (omega arith)) in
    let e : 4 * j + 0 ≡ 4 * j = omega arith in
    let zeroth : get_or (with_number bytes i x) (4 * j) 0 ≡ get_or bytes (4 * j) 0 =
    ap (λ (m : ℕ). get_or (with_number bytes i x) m 0) (sym e) ∙ same 0 (omega arith) ∙ ap (λ (m : ℕ). get_or bytes m 0) e in
    rw (zeroth, same 1 (omega arith), same 2 (omega arith), same 3 (omega arith))

-- ---- numbers one after another

-- each fits four bytes
unfoldable pub Fit : List ℕ → Type 0
Fit [] = Unit {0}
Fit (x ∷ l) = (x < 4294967296) × Fit l

numbered-before : (bytes : List ℕ) (i : ℕ) (l : List ℕ) (j : ℕ) → j < i → number_at (numbered bytes i l) j ≡ number_at bytes j
unfolding numbered
numbered-before bytes i [] j h = refl
numbered-before bytes i (x ∷ l) j h =
    numbered-before (with_number bytes i x) (i + 1) l j (omega arith) ∙ number-other bytes i x j (λ e. omega arith)

pub numbered-at : (bytes : List ℕ) (i : ℕ) (l : List ℕ) (m : ℕ) → Fit l → 4 * (i + length l) ≤ length bytes → m < length l
    → number_at (numbered bytes i l) (i + m) ≡ get_or l m 0
unfolding numbered Fit
numbered-at bytes i [] m fits room h = absurd (omega arith)
numbered-at bytes i (x ∷ l) zero fits room h =
    let e : i + 0 ≡ i = omega arith in
    ap (number_at (numbered (with_number bytes i x) (i + 1) l)) e
    ∙ numbered-before (with_number bytes i x) (i + 1) l i (omega arith)
    ∙ number_same bytes i x fits.0 (omega arith)
numbered-at bytes i (x ∷ l) (suc m) fits room h =
    let e : i + suc m ≡ i + 1 + m = omega arith in
    ap (number_at (numbered (with_number bytes i x) (i + 1) l)) e
    ∙ numbered-at (with_number bytes i x) (i + 1) l m fits.1 (omega (arith, length-with_number bytes i x)) (omega arith)

-- the first n bytes decide the numbers in them
pub number_front : (n : ℕ) (bytes rest : List ℕ) (j : ℕ) → n ≤ length bytes → 4 * j + 4 ≤ n → number_at (take n bytes ++ rest) j ≡ number_at bytes j
unfolding number_at
number_front n bytes rest j l h =
    let same : (m : ℕ) → m < n → get_or (take n bytes ++ rest) m 0 ≡ get_or bytes m 0 =
    λ m k. get_or-append (take n bytes) rest 0 m (omega (arith, length-take-le n bytes l)) ∙ get_or-take n bytes m 0 k in
    rw (same (4 * j) (omega arith), same (4 * j + 1) (omega arith), same (4 * j + 2) (omega arith), same (4 * j + 3) (omega arith))
