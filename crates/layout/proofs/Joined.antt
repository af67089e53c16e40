-- Texts joined: how long they are, and one more. Assumes nothing.
use mathlib.Core.Path.{◌≡◌, refl, sym, ap, ap₂, ◌∙◌}
use mathlib.Core.List.{List, ◌++◌, append_assoc, append-nil}
use Prim.Native.Nat.{ℕ, zero, suc, ◌+◌, ◌-◌, ◌*◌, ◌≤◌, ◌<◌}
use native.Mathlib.Nat.{add-zero, add-suc}
use native.Mathlib.Numerals.{add-one}
use native.Mathlib.Omega.{arith}
use lib.ListN.{length, length-append}
use Rattle.layout.specs.Text.{joined}

pub joined_ext : (n : ℕ) (f g : ℕ → List ℕ) → ((i : ℕ) → i < n → f i ≡ g i) → joined n f ≡ joined n g
unfolding joined
joined_ext zero f g h = refl
joined_ext (suc n) f g h = ap₂ ◌++◌ (joined_ext n f g (λ i l. h i (omega arith))) (h n (omega arith))

pub joined_most : (n m : ℕ) (f : ℕ → List ℕ) → ((i : ℕ) → i < n → length (f i) ≤ m) → length (joined n f) ≤ n * m
unfolding joined
joined_most zero m f h = omega arith
joined_most (suc n) m f h =
    omega (arith, length-append (joined n f) (f n), joined_most n m f (λ i l. h i (omega arith)), h n (omega arith))

-- the first m, and the n after them
pub joined-add : (m n : ℕ) (f : ℕ → List ℕ) → joined (m + n) f ≡ joined m f ++ joined n (λ i. f (m + i))
unfolding joined
joined-add m zero f = ap (λ (i : ℕ). joined i f) (add-zero m) ∙ sym (append-nil (joined m f))
joined-add m (suc n) f =
    ap (λ (i : ℕ). joined i f) (add-suc m n)
    ∙ ap (λ (l : List ℕ). l ++ f (m + n)) (joined-add m n f)
    ∙ append_assoc (joined m f) (joined n (λ i. f (m + i))) (f (m + n))

-- one more
pub joined_next : (n : ℕ) (f : ℕ → List ℕ) → joined (n + 1) f ≡ joined n f ++ f n
unfolding joined
joined_next n f = ap (λ (i : ℕ). joined i f) (add-one n)

-- fewer are no longer
pub joined-le : (m n : ℕ) (f : ℕ → List ℕ) → m ≤ n → length (joined m f) ≤ length (joined n f)
joined-le m n f h =
    let e : n ≡ m + (n - m) = omega arith in
    rw e
    (omega (arith, ap length (joined-add m (n - m) f), length-append (joined m f) (joined (n - m) (λ i. f (m + i)))))
