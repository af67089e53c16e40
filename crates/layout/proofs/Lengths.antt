-- How long a stripe's line and the line of a refused sheet are: each has room in 256 bytes. Assumes nothing.
use mathlib.Core.Path.{◌≡◌, refl, ap}
use mathlib.Core.Bool.{true}
use mathlib.Core.List.{[], ◌∷◌, ◌++◌}
use Prim.Native.Nat.{ℕ, ◌+◌, ◌-◌, ◌*◌, ◌^◌, ◌≤◌, ◌<◌}
use native.Mathlib.Omega.{arith}
use lib.ListN.{length, length-append}
use Rattle.design.specs.declared.Shelf.{Shelf}
use Rattle.design.specs.Shelf.{is_shelf}
use Rattle.design.proofs.ShelfTests.{shelf_parts}
use Rattle.placement.specs.Entries.{ranks_of}
use Rattle.placement.specs.Slots.{position_of}
use Rattle.placement.specs.Layout.{Layout, layout_in, stripes, disk_of, offset_of, place_of, parity_of}
use Rattle.placement.proofs.Bounds.{bounds}
use Rattle.placement.proofs.Even.{even_shelf}
use Rattle.placement.proofs.Row.{disk-lt, offset_lt}
use Rattle.placement.proofs.Position.{parity-lt, position-lt}
use Rattle.layout.specs.declared.write.Rows.{Rows}
use Rattle.layout.specs.Text.{line_end, colon, decimal, place_text, spaced, joined, place_word, stripe_line, refused_word, refused_line}
use Rattle.layout.proofs.Decimals.{digits_most}
use Rattle.layout.proofs.Joined.{joined_most}
use Rattle.layout.proofs.Ranking.{ranked_word, ranked_data, ranked_line, ranked_lines, word_is, line_is}

pub refused_most : (n : ℕ) → n < 2 ^ 64 → length (refused_line n) ≤ 256
unfolding refused_line
refused_most n h =
    omega (
      arith,
      length-append (refused_word ++ spaced (decimal n)) (line_end ∷ []),
      length-append refused_word (spaced (decimal n)),
      digits_most 19 n (omega arith),
    )

-- ---- a stripe's line by the ranks, as it is written

module _ (rows : Rows) where
  abbrev h : Shelf
  h = rows.checked.shelf.now

  abbrev L : Layout
  L = layout_in h

  module _ (s : ℕ) (below : s < stripes L) where
    word_most : (p : ℕ) → p < h.k → length (ranked_word rows s p) ≤ 13
    unfolding place_word place_text place_of
    word_most p hp =
        let d : ℕ = disk_of L s p in
        let o : ℕ = offset_of L s p in
        let E = even_shelf h rows.checked.passed in
        let v = (shelf_parts h rows.checked.passed).limits.v_most in
        omega (
          arith,
          ap length (word_is rows s p hp),
          length-append (decimal d) (colon ∷ decimal o),
          digits_most 1 d (omega (arith, disk-lt L E s p hp)),
          digits_most 8 o (omega (arith, offset_lt L E s p below hp, (bounds h rows.checked.passed).offsets)),
        )

    pub ranked_most : length (ranked_line rows s) ≤ 256
    ranked_most =
        let E = even_shelf h rows.checked.passed in
        let number = digits_most 8 s (omega (arith, (bounds h rows.checked.passed).stripes)) in
        let parity = ranked_word rows s (parity_of L s) in
        let rest = joined (h.k - 1) (ranked_data rows s) in
        let k : h.k ≤ 16 = omega (arith, (shelf_parts h rows.checked.passed).limits.k_most) in
        omega (
          arith,
          length-append (decimal s ++ parity ++ rest) (line_end ∷ []),
          length-append (decimal s ++ parity) rest,
          length-append (decimal s) parity,
          word_most (parity_of L s) (parity-lt L E s),
          joined_most (h.k - 1) 13 (ranked_data rows s) (λ j l. word_most (position_of (parity_of L s) j) (position-lt L E s j l)),
        )

  -- those of n stripes
  pub ranked_lines_most : (first n : ℕ) → first + n ≤ stripes L → length (ranked_lines rows first n) ≤ n * 256
  ranked_lines_most first n range = joined_most n 256 _ (λ i l. ranked_most (first + i) (omega arith))

-- a shelf has its ranks, so this holds of the layout's line
pub line_most : (h : Shelf) → is_shelf h ≡ true → (s : ℕ) → s < stripes (layout_in h) → length (stripe_line (layout_in h) s) ≤ 256
line_most h ok s below =
    let rows : Rows = record { checked = record { shelf = record { ref_ptr = (0, 0); now = h }; passed = ok }; ranks = ranks_of h.table (h.b * h.k); ranked = refl } in
    omega (arith, ap length (line_is rows s), ranked_most rows s below)
