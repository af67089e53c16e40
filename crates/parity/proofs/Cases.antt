-- Splitting a proof on a test, and functions with another value at one number. Assumes nothing.
use mathlib.Core.Path.{◌≡◌, refl, sym}
use mathlib.Core.Logic.{◌≢◌}
use mathlib.Core.Bool.{Bool, true, false, ◌||◌}
use Prim.Native.Nat.{ℕ, ◌+◌}
use native.Mathlib.Omega.{arith}
use lib.Dec.{ltb, eqb}
use borrow.Author.Tests.{lt-ltb, ltb-true, eq-eqb, ne_eqb, eqb-true, eqb-false}
use Rattle.design.proofs.Counting.{alike}
use Rattle.parity.specs.Units.{put}

pub cases {ℓ} : {A : Type ℓ} (b : Bool) → (b ≡ true → A) → (b ≡ false → A) → A
cases true f g = f refl
cases false f g = g refl

module _ {ℓ} {A : Type ℓ} (f : ℕ → A) (i : ℕ) (x : A) where
  pub put_same : put f i x i ≡ x
  put_same = rw (eq-eqb i i refl)

  pub put_other : (j : ℕ) → j ≢ i → put f i x j ≡ f j
  put_other j ne = rw (ne_eqb j i ne)

  -- what holds of x at i, and of f elsewhere
  pub put_each : (P : A → Type ℓ) (j : ℕ) → (j ≡ i → P x) → (j ≢ i → P (f j)) → P (put f i x j)
  put_each P j here there = cases (eqb j i) (λ e. rw e (here (eqb-true j i e))) (λ e. rw e (there (eqb-false j i e)))

-- two functions that are equal but at i
pub put_ext {ℓ} : {A : Type ℓ} (f g : ℕ → A) (i : ℕ) (x : A) (j : ℕ) → (j ≢ i → f j ≡ g j) → put f i x j ≡ put g i x j
put_ext f g i x j same = cases (eqb j i) (λ e. rw e) (λ e. rw e (same (eqb-false j i e)))

-- one number more below
pub below_next : (x i : ℕ) → (eqb x i || ltb x i) ≡ ltb x (i + 1)
below_next x i = cases (eqb x i)
    (λ e. rw e (sym (lt-ltb x (i + 1) (omega (arith, eqb-true x i e)))))
    (λ e. rw e (alike (ltb x i) (ltb x (i + 1))
    (λ t. lt-ltb x (i + 1) (omega (arith, ltb-true x i t)))
    (λ t. let ne : x ≢ i = eqb-false x i e in lt-ltb x i (omega (arith, ltb-true x (i + 1) t)))))
