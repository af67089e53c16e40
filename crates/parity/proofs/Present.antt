-- Which units are present, by what is lost: no other law looks behind `present`. Assumes nothing.
use mathlib.Core.Path.{◌≡◌, sym, ap, ◌∙◌}
use mathlib.Core.Bool.{true, false, not}
use Prim.Native.Nat.{ℕ}
use lib.Dec.{eqb}
use borrow.Author.Tests.{eqb-true, not-false}
use Rattle.design.specs.declared.Shelf.{Shelf}
use Rattle.design.specs.Loss.{is_whole, is_lost}
use Rattle.design.proofs.Losses.{whole_unlost, lost_alone}
use Rattle.parity.specs.Stripe.{disk_at, present}

module _ (h : Shelf) where
  pub whole-present : is_whole h.loss ≡ true → (n : ℕ) → present h n ≡ true
  unfolding present
  whole-present e n = rw (whole_unlost h.loss e (disk_at h n))

  -- by the disk that is lost
  pub present_is : (d : ℕ) → is_lost h d ≡ true → (n : ℕ) → present h n ≡ not (eqb (disk_at h n) d)
  unfolding present
  present_is d e n = ap not (lost_alone h.loss d e (disk_at h n))

  -- what is not present is on a lost disk
  absent_lost : (n : ℕ) → present h n ≡ false → is_lost h (disk_at h n) ≡ true
  unfolding present
  absent_lost n e = not-false _ e

  -- and two such units are on the same
  pub absent_together : (m n : ℕ) → present h m ≡ false → present h n ≡ false → disk_at h m ≡ disk_at h n
  absent_together m n a b =
      eqb-true _ _ (sym (lost_alone h.loss (disk_at h n) (absent_lost n b) (disk_at h m)) ∙ absent_lost m a)
