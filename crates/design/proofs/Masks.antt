-- Laws of a tuple's mask. Assumes nothing.
use mathlib.Core.Path.{◌≡◌, refl, sym, ap, ap₂, ◌∙◌}
use mathlib.Core.Bool.{Bool, true, false, cond, ◌||◌}
use Prim.Native.Nat.{ℕ, zero, suc, ◌≤◌, ◌+◌, ◌*◌, ◌%◌, ◌^◌, ◌<◌}
use native.Mathlib.Nat.{add-zero}
use native.Mathlib.Omega.{arith}
use lib.Dec.{eqb, ltb}
use lib.Bits.{bit_or}
use lib.ListN.{length, get_or, take}
use native.Mathlib.Numerals.{add-one}
use lib.Seq.{take_all}
use Rattle.std.proofs.lemmas.List.Sums.{fold_more}
use mathlib.Core.List.{List}
use Rattle.std.specs.List.{All, fold}
use borrow.Author.Tests.{lt-ltb}
use Rattle.design.specs.Count.{count}
use Rattle.design.specs.Tuples.{has}
use Rattle.design.specs.inner.Planes.{bit}
use Rattle.design.specs.inner.Tally.{disk_at, MaskOf}
use Rattle.design.proofs.Sums.{count_next}
use Rattle.design.proofs.Bits.{bit_zero, bit_of, bit-or, bit-one}

-- one position more
has_next : (tuple : ℕ → ℕ) (p e : ℕ) → has tuple (p + 1) e ≡ (has tuple p e || eqb (tuple p) e)
unfolding has
has_next tuple p e = ap (ltb 0) (count_next (λ i. eqb (tuple i) e) p) ∙ go (count (λ i. eqb (tuple i) e) p) (eqb (tuple p) e)
  where
    or_true : (x : Bool) → (x || true) ≡ true
    or_true true = refl
    or_true false = refl

    or_false : (x : Bool) → (x || false) ≡ x
    or_false true = refl
    or_false false = refl

    go : (n : ℕ) (y : Bool) → ltb 0 (n + cond y 1 0) ≡ (ltb 0 n || y)
    go n true = lt-ltb 0 (n + 1) (omega arith) ∙ sym (or_true (ltb 0 n))
    go n false = ap (ltb 0) (add-zero n) ∙ sym (or_false (ltb 0 n))

pub mask_none : (tuple : ℕ → ℕ) → MaskOf tuple 0 0
unfolding has count
mask_none tuple e = bit_zero e

pub mask_next : (tuple : ℕ → ℕ) (p mask : ℕ) → tuple p < 64 → MaskOf tuple p mask
    → MaskOf tuple (p + 1) (bit_or mask ((1 * 2 ^ tuple p) % 2 ^ 64))
mask_next tuple p mask h m e =
    bit-or mask ((1 * 2 ^ tuple p) % 2 ^ 64) e
    ∙ ap₂ bit_or (m e) (ap (λ (x : ℕ). bit x e) (bit_of (tuple p) h) ∙ bit-one (tuple p) e)
    ∙ go (has tuple p e) (eqb (tuple p) e)
    ∙ ap (λ (x : Bool). cond x 1 0) (sym (has_next tuple p e))
  where
    go : (x y : Bool) → bit_or (cond x 1 0) (cond y 1 0) ≡ cond (x || y) 1 0
    go true true = refl
    go true false = refl
    go false true = refl
    go false false = refl

-- the mask of a whole tuple
pub mask_all : (tuple : List ℕ) → All (λ d. d < 64) tuple → MaskOf (disk_at tuple) (length tuple) (fold (λ m d. bit_or m ((1 * 2 ^ d) % 2 ^ 64)) 0 tuple)
mask_all tuple h =
    let whole : take (length tuple) tuple ≡ tuple = take_all (length tuple) tuple (omega arith) in
    rw whole at (go (length tuple) (omega arith))
  where
    add : ℕ → ℕ → ℕ
    add m d = bit_or m ((1 * 2 ^ d) % 2 ^ 64)

    go : (i : ℕ) → i ≤ length tuple → MaskOf (disk_at tuple) i (fold add 0 (take i tuple))
    go zero l = mask_none (disk_at tuple)
    go (suc i) l =
        let more : MaskOf (disk_at tuple) (i + 1) (add (fold add 0 (take i tuple)) (get_or tuple i 0)) = mask_next (disk_at tuple) i (fold add 0 (take i tuple)) (h i 0 l) (go i (omega arith)) in
        rw (← fold_more add 0 tuple i 0 l, add-one) at more
