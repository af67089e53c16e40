-- A place by the ranks of a shelf's entries is the layout's, and so is a stripe's line. Assumes nothing.
use mathlib.Core.Path.{◌≡◌, refl, ap, ap₂, ◌∙◌}
use mathlib.Core.List.{List, [], ◌∷◌, ◌++◌}
use Prim.Native.Nat.{ℕ, ◌+◌, ◌-◌, ◌*◌, ◌<◌}
use lib.Arith.{digits_lt}
use lib.ListN.{get_or}
use Rattle.design.specs.declared.Shelf.{Shelf}
use Rattle.design.proofs.ShelfTests.{shelf_parts}
use Rattle.placement.specs.Slots.{position_of}
use Rattle.placement.specs.Layout.{Layout, layout_in, full_table_of, copy_of, tuple_of, parity_of, disk_of, offset_of, place_of, split_of}
use Rattle.placement.proofs.Even.{even_shelf}
use Rattle.placement.proofs.Flat.{rank_before}
use Rattle.placement.proofs.PerEntry.{ranks_at}
use Rattle.placement.proofs.Position.{parity-lt, position-lt}
use Rattle.placement.proofs.Row.{tuple-lt}
use Rattle.layout.specs.declared.write.Rows.{Rows}
use Rattle.layout.specs.Text.{line_end, colon, decimal, place_text, spaced, joined, place_word, stripe_line}
use Rattle.layout.specs.inner.Entry.{entry_word}
use Rattle.layout.proofs.Joined.{joined_ext}

module _ (rows : Rows) (s : ℕ) where
  abbrev h : Shelf
  h = rows.checked.shelf.now

  abbrev L : Layout
  L = layout_in h

  -- the units of a disk before those of the stripe's copy
  abbrev base : ℕ
  base = full_table_of L s * h.r * h.k + copy_of L s * h.r

  -- the word of position p by the ranks, that of data j, and the line
  abbrev pub ranked_word : ℕ → List ℕ
  ranked_word p = entry_word rows base (tuple_of L s * h.k + p)

  abbrev pub ranked_data : ℕ → List ℕ
  ranked_data j = ranked_word (position_of (parity_of L s) j)

  abbrev pub ranked_line : List ℕ
  ranked_line = decimal s ++ ranked_word (parity_of L s) ++ joined (h.k - 1) ranked_data ++ line_end ∷ []

  -- the base and an entry's rank are its offset
  offset_is : (p : ℕ) → p < h.k → base + get_or rows.ranks (tuple_of L s * h.k + p) 0 ≡ offset_of L s p
  unfolding offset_of split_of
  offset_is p hp =
      let q : ℕ = tuple_of L s in
      let hq : q < h.b = tuple-lt L (even_shelf h rows.checked.passed) s in
      ap (◌+◌ base)
      (ranks_at h.table _ rows.ranked (shelf_parts h rows.checked.passed).limits.places (q * h.k + p) (digits_lt hq hp)
      ∙ rank_before h rows.checked.passed q p (disk_of L s p) hq hp refl)

  pub word_is : (p : ℕ) → p < h.k → ranked_word p ≡ place_word L s p
  unfolding entry_word place_word place_text place_of
  word_is p hp = ap (λ (o : ℕ). spaced (decimal (disk_of L s p)) ++ colon ∷ decimal o) (offset_is p hp)

  pub line_is : ranked_line ≡ stripe_line L s
  unfolding stripe_line
  line_is =
      let E = even_shelf h rows.checked.passed in
      ap₂ (λ (x y : List ℕ). decimal s ++ x ++ y ++ line_end ∷ [])
      (word_is (parity_of L s) (parity-lt L E s))
      (joined_ext (h.k - 1) ranked_data (λ j. place_word L s (position_of (parity_of L s) j)) (λ j l. word_is (position_of (parity_of L s) j) (position-lt L E s j l)))

-- the lines of n stripes from `first` on
abbrev pub ranked_lines : Rows → ℕ → ℕ → List ℕ
ranked_lines rows first n = joined n (λ i. ranked_line rows (first + i))
