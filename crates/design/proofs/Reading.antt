-- Laws of reading a sheet's fields and of its table. Assumes nothing.
use mathlib.Core.Path.{◌≡◌, refl, sym, ap, ◌∙◌}
use mathlib.Core.Logic.{◌≢◌, ◌⊎◌, inl, inr}
use mathlib.Core.Bool.{Bool, true, false, cond}
use mathlib.Core.List.{List, ◌++◌}
use Prim.Native.Nat.{ℕ, zero, suc, ◌+◌, ◌-◌, ◌≤◌, ◌<◌, zero-le}
use native.Mathlib.Nat.{zero-add}
use native.Mathlib.Omega.{arith}
use lib.Dec.{ltb, eqb}
use lib.ListN.{length, get_or, set, drop, replicate, length-append, length-drop, length-replicate, get_or-append}
use lib.Seq.{ext_get_or, get_or-set_same, get_or-set_other, get_or-append_right}
use Rattle.std.proofs.lemmas.List.{get_or-drop}
use borrow.Author.Tests.{lt-ltb, le-ltb, ltb-true, ltb-false, eqb-true, eqb-false}
use Rattle.fields.specs.Field.{field}
use Rattle.fields.proofs.Writes.{field_lt}
use Rattle.design.specs.Sheet.{table_size, number_of, table_of}
use Rattle.design.proofs.Counting.{decided, alike, length-list_from, get_or-list_from}

-- a number of six bits is a byte
pub number_lt : (s : List ℕ) (at x : ℕ) → x ≡ field s at 6 → x < 64
number_lt s at x e = omega (arith, field_lt s at 6)

-- ---- a table whose first entries are f's, the others zero

abbrev pub Filled : (ℕ → ℕ) → ℕ → List ℕ → Type 0
Filled f i table = (j : ℕ) → j < table_size → get_or table j 0 ≡ cond (ltb j i) (f j) 0

pub get_or-zeros : (n j : ℕ) → ◌≡◌ {A = ℕ} (get_or (replicate n 0) j 0) 0
get_or-zeros zero j = refl
get_or-zeros (suc n) zero = refl
get_or-zeros (suc n) (suc j) = get_or-zeros n j

pub filled_none : (f : ℕ → ℕ) → Filled f 0 (replicate table_size 0)
filled_none f j h = get_or-zeros table_size j ∙ sym (ap (λ (t : Bool). cond t (f j) 0) (le-ltb j 0 zero-le))

pub filled_more : (f : ℕ → ℕ) (i : ℕ) (table : List ℕ) (x : ℕ) → length table ≡ table_size → x ≡ f i → Filled f i table → Filled f (i + 1) (set table i x)
filled_more f i table x e p h j l = go (decided (eqb j i))
  where
    go : (eqb j i ≡ true) ⊎ (eqb j i ≡ false) → get_or (set table i x) j 0 ≡ cond (ltb j (i + 1)) (f j) 0
    go (inl t) =
        let q : j ≡ i = eqb-true j i t in
        let m : i < length table = omega arith in
        let n : i < i + 1 = omega arith in
        rw (q, lt-ltb i (i + 1) n) (get_or-set_same table i x 0 m ∙ p)
    go (inr t) =
        let ne : j ≢ i = eqb-false j i t in
        get_or-set_other table i j x 0 ne ∙ h j l ∙ ap (λ (t : Bool). cond t (f j) 0) (alike (ltb j i) (ltb j (i + 1))
        (λ u. let v : j < i = ltb-true j i u in lt-ltb j (i + 1) (omega arith))
        (λ u. let v : j < i + 1 = ltb-true j (i + 1) u in lt-ltb j i (omega arith)))

pub table_filled : (s : List ℕ) (n : ℕ) → Filled (number_of s) n (table_of s n)
unfolding table_of
table_filled s n j h =
    get_or-list_from 0 table_size _ j h ∙ ap (λ (i : ℕ). cond (ltb i n) (number_of s i) 0) (zero-add j)

pub table_inside : (s : List ℕ) (n i : ℕ) → n ≤ table_size → i < n → get_or (table_of s n) i 0 ≡ number_of s i
table_inside s n i h l = rw (table_filled s n i (omega arith), lt-ltb i n l)

pub table_past : (s : List ℕ) (n i : ℕ) → n ≤ i → i < table_size → get_or (table_of s n) i 0 ≡ 0
table_past s n i h l = rw (table_filled s n i l, le-ltb i n h)

pub length-table : (s : List ℕ) (n : ℕ) → length (table_of s n) ≡ table_size
unfolding table_of
length-table s n = length-list_from 0 table_size _

pub filled-table : (s table : List ℕ) (n : ℕ) → length table ≡ table_size → Filled (number_of s) n table → table ≡ table_of s n
filled-table s table n e h =
    ext_get_or 0 table (table_of s n) (e ∙ sym (length-table s n)) (λ j l. let m : j < table_size = omega arith in h j m ∙ sym (table_filled s n j m))

-- the numbers that were read, and the zeros after them
pub read_table : (s items : List ℕ) (n : ℕ) → length items ≡ n → n ≤ table_size → ((j : ℕ) → j < n → get_or items j 0 ≡ number_of s j)
    → items ++ drop n (replicate table_size 0) ≡ table_of s n
read_table s items n e few h = filled-table s table n long (λ j l. at j l (decided (ltb j n)))
  where
    rest : List ℕ
    rest = drop n (replicate table_size 0)

    table : List ℕ
    table = items ++ rest

    long : length table ≡ table_size
    long = omega (arith, length-append items rest, length-drop {A = ℕ} n (replicate table_size 0), length-replicate {A = ℕ} table_size 0)

    at : (j : ℕ) → j < table_size → (ltb j n ≡ true) ⊎ (ltb j n ≡ false) → get_or table j 0 ≡ cond (ltb j n) (number_of s j) 0
    at j l (inl t) =
        let m : j < length items = omega (arith, ltb-true j n t) in
        rw t (get_or-append items rest 0 j m ∙ h j (ltb-true j n t))
    at j l (inr t) =
        let m : length items ≤ j = omega (arith, ltb-false j n t) in
        rw t (get_or-append_right items rest j 0 m ∙ get_or-drop n (replicate table_size 0) (j - length items) 0 ∙ get_or-zeros table_size (n + (j - length items)))
