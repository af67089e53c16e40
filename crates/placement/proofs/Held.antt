-- A tuple holds the disk at each of its positions, and a disk that it holds stands at one of them. Assumes nothing.
use mathlib.Core.Path.{◌≡◌, refl}
use mathlib.Core.Bool.{true}
use Prim.Native.Nat.{ℕ, ◌<◌}
use native.Mathlib.Omega.{arith}
use lib.Dec.{eqb}
use borrow.Author.Tests.{lt-ltb, ltb-true, eq-eqb}
use Rattle.design.specs.Count.{count, nth}
use Rattle.design.specs.Tuples.{Design, has, holds}
use Rattle.design.proofs.Counting.{count-lt, Nth, nth_is}

module _ (D : Design) (q : ℕ) where
  pub holds-disk : (p : ℕ) → p < D.k → holds D q (D.disk q p) ≡ true
  unfolding holds has
  holds-disk p h =
      let l = count-lt (λ p'. eqb (D.disk q p') (D.disk q p)) p D.k h (eq-eqb (D.disk q p) (D.disk q p) refl) in
      lt-ltb 0 (count (λ p'. eqb (D.disk q p') (D.disk q p)) D.k) (omega arith)

  pub held_at : (d : ℕ) → holds D q d ≡ true → Nth (λ p. eqb (D.disk q p) d) D.k 0 (nth (λ p. eqb (D.disk q p) d) D.k 0)
  unfolding holds has
  held_at d e =
      nth_is (λ p. eqb (D.disk q p) d) D.k 0 (ltb-true 0 (count (λ p. eqb (D.disk q p) d) D.k) e)
