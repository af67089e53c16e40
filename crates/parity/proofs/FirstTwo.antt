-- The exclusive-or of the units beside unit i, begun with the first two of them. Assumes nothing.
use mathlib.Core.Path.{◌≡◌, ap, ap₂, ◌∙◌}
use mathlib.Core.Bool.{cond}
use mathlib.Core.List.{List}
use Prim.Native.Nat.{ℕ, zero, suc, ◌+◌, ◌≤◌, ◌<◌}
use native.Mathlib.Omega.{arith}
use lib.Dec.{ltb, eqb}
use lib.ListN.{length, length-replicate}
use borrow.Author.Tests.{le-ltb, ne_eqb}
use Rattle.parity.specs.Units.{zeros, xor_u, xor_sum, put}
use Rattle.parity.proofs.Cases.{put_other}
use Rattle.parity.proofs.Xor.{xor_u-zeros_left, xor_u-zeros}
use Rattle.parity.proofs.Summing.{sum_next}

-- the first two indices beside i

abbrev pub first : ℕ → ℕ
first i = cond (eqb i 0) 1 0

abbrev pub second : ℕ → ℕ
second i = cond (ltb i 2) 2 1

-- they are below k, where there are three units
pub two_beside : (i k : ℕ) → 3 ≤ k → (first i < k) × (second i < k) × (second i ≤ 2)
two_beside zero k m = (omega arith, omega arith, omega arith)
two_beside (suc zero) k m = (omega arith, omega arith, omega arith)
two_beside (suc (suc i)) k m = rw (ne_eqb (suc (suc i)) 0 (omega arith), le-ltb (suc (suc i)) 2 (omega arith)) (omega arith, omega arith, omega arith)

module _ (U : ℕ) (f : ℕ → List ℕ) (sized : (j : ℕ) → j < 3 → length (f j) ≡ U) where
  sum-two : (g : ℕ → List ℕ) → length (g 0) ≡ U → xor_sum U g 2 ≡ xor_u (g 0) (g 1)
  unfolding xor_sum
  sum-two g size = ap (λ (x : List ℕ). xor_u x (g 1)) (xor_u-zeros_left U (g 0) size)

  pub first_two : (i : ℕ) → xor_sum U (put f i (zeros U)) (second i + 1) ≡ xor_u (f (first i)) (f (second i))
  first_two zero =
      let g : ℕ → List ℕ = put f 0 (zeros U) in
      sum_next U g 2 ∙ ap (λ (x : List ℕ). xor_u x (f 2)) (sum-two g (length-replicate U 0) ∙ xor_u-zeros_left U (f 1) (sized 1 (omega arith)))
  first_two (suc zero) =
      let g : ℕ → List ℕ = put f 1 (zeros U) in
      sum_next U g 2 ∙ ap (λ (x : List ℕ). xor_u x (f 2)) (sum-two g (sized 0 (omega arith)) ∙ xor_u-zeros U (f 0) (sized 0 (omega arith)))
  first_two (suc (suc i)) =
      let g : ℕ → List ℕ = put f (suc (suc i)) (zeros U) in
      let same : (j : ℕ) → j < 2 → g j ≡ f j = λ j l. put_other f (suc (suc i)) (zeros U) j (omega arith) in
      rw (ne_eqb (suc (suc i)) 0 (omega arith), le-ltb (suc (suc i)) 2 (omega arith))
      (sum-two g (ap length (same 0 (omega arith)) ∙ sized 0 (omega arith)) ∙ ap₂ xor_u (same 0 (omega arith)) (same 1 (omega arith)))
