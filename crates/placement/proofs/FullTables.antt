-- Every full table is laid out as the one before it (document 01, "Where a unit stands"). Assumes nothing.
use mathlib.Core.Path.{◌≡◌, ap}
use Prim.Native.Nat.{ℕ, ◌+◌, ◌*◌, ◌%◌}
use native.Mathlib.Nat.{mul-pos, add-mod_right, add-div_right}
use native.Mathlib.Omega.{arith}
use Rattle.placement.specs.Layout.{Layout, full_table_of, copy_of, tuple_of, parity_of, disk_of, split_of, offset_of}
use Rattle.placement.proofs.Even.{Even}
use Rattle.placement.proofs.Row.{parity_copy}

-- the same stripe of the next full table
abbrev pub next_table : Layout → ℕ → ℕ
next_table L s = s + L.design.b * L.design.k

module _ (L : Layout) (E : Even L) (s : ℕ) where
  next_w : next_table L s % (L.design.b * L.design.k) ≡ s % (L.design.b * L.design.k)
  next_w = add-mod_right s (L.design.b * L.design.k)

  next_table_lem : full_table_of L (next_table L s) ≡ full_table_of L s + 1
  unfolding split_of
  next_table_lem = add-div_right s (mul-pos E.b_pos (omega (arith, E.k_least)))

  next_copy : copy_of L (next_table L s) ≡ copy_of L s
  unfolding split_of
  next_copy = rw next_w

  next_tuple : tuple_of L (next_table L s) ≡ tuple_of L s
  unfolding split_of
  next_tuple = rw next_w

  pub next_parity : parity_of L (next_table L s) ≡ parity_of L s
  next_parity = rw (parity_copy L E (next_table L s), next_copy, parity_copy L E s)

  pub next_disk : (p : ℕ) → disk_of L (next_table L s) p ≡ disk_of L s p
  next_disk p = ap (λ (q : ℕ). L.design.disk q p) next_tuple

  pub next_offset : (p : ℕ) → offset_of L (next_table L s) p ≡ offset_of L s p + L.r * L.design.k
  unfolding offset_of
  next_offset p = rw (next_disk p, next_tuple, next_copy, next_table_lem) (omega arith)
