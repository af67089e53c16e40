-- The lines of stripe after stripe, by the ranks: each has room, and together they are the layout's lines. Assumes nothing.
use mathlib.Core.Path.{◌≡◌}
use mathlib.Core.Bool.{true}
use Prim.Native.Nat.{ℕ, ◌+◌, ◌-◌, ◌*◌, ◌≤◌, ◌<◌}
use native.Mathlib.Omega.{arith}
use lib.ListN.{length}
use Rattle.design.specs.declared.Shelf.{Shelf}
use Rattle.design.specs.Shelf.{is_shelf}
use Rattle.placement.specs.Layout.{Layout, layout_in, stripes}
use Rattle.layout.specs.declared.pen.Pen.{Pen}
use Rattle.layout.specs.declared.write.Rows.{Rows}
use Rattle.layout.specs.Text.{joined, stripe_line, lines_from}
use Rattle.layout.specs.inner.Steps.{Fits, Wrote}
use Rattle.layout.proofs.Puts.{wrote_nothing}
use Rattle.layout.proofs.Joined.{joined_ext, joined_most}
use Rattle.layout.proofs.Lengths.{line_most}
use Rattle.layout.proofs.Words.{next_fits, wrote_next}
use Rattle.layout.proofs.Ranking.{ranked_line, ranked_lines, line_is}

module _ (rows : Rows) (first : ℕ) where
  abbrev L : Layout
  L = layout_in rows.checked.shelf.now

  module _ {pen : Pen} where
    pub no_line : Wrote pen (ranked_lines rows first (first - first)) pen
    unfolding joined
    no_line = let e : first - first ≡ 0 = omega arith in rw e wrote_nothing

    pub printed_all : (i n : ℕ) {after : Pen} → Wrote pen (ranked_lines rows first i) after → i ≡ n → Wrote pen (lines_from L first n) after
    unfolding lines_from
    printed_all i n p e =
        let all : ranked_lines rows first n ≡ joined n (λ j. stripe_line L (first + j)) = joined_ext n _ _ (λ j l. line_is rows (first + j)) in
        rw (e, all) at p

    module _ (s : ℕ) (from : first ≤ s) {between : Pen} (p : Wrote pen (ranked_lines rows first (s - first)) between) where
      next_is : ranked_line rows (first + (s - first)) ≡ stripe_line L s
      next_is = let here : first + (s - first) ≡ s = omega arith in rw here (line_is rows s)

      pub next_line_fits : (n : ℕ) → s < first + n → Fits pen (ranked_lines rows first n) → Fits between (stripe_line L s)
      next_line_fits n l fits = rw next_is at (next_fits _ (s - first) p (omega arith) fits)

      pub wrote_line : {after : Pen} → Wrote between (stripe_line L s) after → Wrote pen (ranked_lines rows first (s + 1 - first)) after
      wrote_line q =
          let e : s + 1 - first ≡ s - first + 1 = omega arith in
          rw e (wrote_next _ (s - first) p (rw next_is q))

-- the lines of n stripes have room in n times 256 bytes
pub lines_most : (h : Shelf) → is_shelf h ≡ true → (first n : ℕ) → first + n ≤ stripes (layout_in h) → length (lines_from (layout_in h) first n) ≤ n * 256
unfolding lines_from
lines_most h ok first n range = joined_most n 256 (λ i. stripe_line (layout_in h) (first + i)) (λ i l. line_most h ok (first + i) (omega arith))
