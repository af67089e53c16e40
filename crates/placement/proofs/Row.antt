-- A stripe's row: the copies of all full tables, counted through; and by it the offset and the range of a place.
-- Assumes nothing.
use mathlib.Core.Path.{◌≡◌, refl, ap, ◌∙◌}
use Prim.Native.Nat.{ℕ, ◌+◌, ◌-◌, ◌*◌, ◌/◌, ◌%◌, ◌<◌}
use native.Mathlib.Nat.{mul_comm, div-div-eq-div-mul, div-add-mod', mod-lt, div-lt_iff_lt-mul}
use native.Mathlib.Omega.{arith}
use lib.Arith.{digits_lt, digits_div, digits_mod, mod-mul}
use Rattle.design.specs.Tuples.{holds, before}
use Rattle.design.proofs.Counting.{count-lt}
use Rattle.placement.specs.Layout.{Layout, stripes, offsets, full_table_of, copy_of, tuple_of, parity_of, disk_of, split_of, offset_of}
use Rattle.placement.proofs.Held.{holds-disk}
use Rattle.placement.proofs.Even.{Even}

module _ (L : Layout) (E : Even L) where
  k_pos : 0 < L.design.k
  k_pos = omega (arith, E.k_least)

  pub tuple-lt : (s : ℕ) → tuple_of L s < L.design.b
  unfolding split_of
  tuple-lt s = mod-lt _ E.b_pos

  -- the stripe in its full table
  within : (s : ℕ) → s % (L.design.b * L.design.k) ≡ s / L.design.b % L.design.k * L.design.b + s % L.design.b
  within s = ap (λ (n : ℕ). s % n) (mul_comm L.design.b L.design.k) ∙ mod-mul s k_pos E.b_pos

  pub tuple_row : (s : ℕ) → tuple_of L s ≡ s % L.design.b
  unfolding split_of
  tuple_row s = rw within (digits_mod (s / L.design.b % L.design.k) (mod-lt s E.b_pos))

  pub copy_row : (s : ℕ) → copy_of L s ≡ s / L.design.b % L.design.k
  unfolding split_of
  copy_row s = rw within (digits_div (s / L.design.b % L.design.k) (mod-lt s E.b_pos))

  pub copy_lt : (s : ℕ) → copy_of L s < L.design.k
  copy_lt s = rw copy_row (mod-lt (s / L.design.b) k_pos)

  -- the parity turns with the copy
  pub parity_copy : (s : ℕ) → parity_of L s ≡ L.design.k - 1 - copy_of L s
  unfolding split_of
  parity_copy s = refl

  pub parity_row : (s : ℕ) → parity_of L s ≡ L.design.k - 1 - s / L.design.b % L.design.k
  parity_row s = rw (parity_copy s, copy_row s)

  pub row : (s : ℕ) → full_table_of L s * L.design.k + copy_of L s ≡ s / L.design.b
  unfolding split_of
  row s = rw (copy_row s, ← div-div-eq-div-mul s L.design.b L.design.k) (div-add-mod' (s / L.design.b) L.design.k)

  pub offset_row : (s p : ℕ) → offset_of L s p ≡ s / L.design.b * L.r + before L.design (tuple_of L s) (disk_of L s p)
  unfolding offset_of
  offset_row s p = omega (arith, ap (λ (n : ℕ). n * L.r) (row s))

  pub rank_lt : (q p : ℕ) → q < L.design.b → p < L.design.k → before L.design q (L.design.disk q p) < L.r
  unfolding before
  rank_lt q p hq hp =
      let d : ℕ = L.design.disk q p in
      omega (arith, count-lt (λ q'. holds L.design q' d) q L.design.b hq (holds-disk L.design q p hp), E.often d (E.range q p hq hp))

  pub before-lt : (s p : ℕ) → p < L.design.k → before L.design (tuple_of L s) (disk_of L s p) < L.r
  before-lt s p hp = rank_lt (tuple_of L s) p (tuple-lt s) hp

  pub disk-lt : (s p : ℕ) → p < L.design.k → disk_of L s p < L.design.v
  disk-lt s p hp = E.range (tuple_of L s) p (tuple-lt s) hp

  pub offset_lt : (s p : ℕ) → s < stripes L → p < L.design.k → offset_of L s p < offsets L
  offset_lt s p hs hp =
      let l : s < L.T * L.design.k * L.design.b = omega arith in
      omega (arith, offset_row s p, digits_lt ((div-lt_iff_lt-mul E.b_pos).1 l) (before-lt s p hp))
