-- The place of an entry, written as its disk, a colon and its offset. Assumes nothing.
use mathlib.Core.Path.{◌≡◌}
use mathlib.Core.List.{[], ◌∷◌}
use Prim.Native.Nat.{ℕ, ◌+◌}
use lib.ListN.{get_or}
use Rattle.layout.specs.declared.write.Rows.{Rows}
use Rattle.layout.specs.declared.pen.Pen.{Pen}
use Rattle.layout.specs.Text.{colon, decimal, spaced}
use Rattle.layout.specs.inner.Steps.{Fits, Wrote}
use Rattle.layout.specs.inner.Entry.{entry_word}
use Rattle.layout.proofs.Puts.{wrote_then, fits_front, fits_rest}

module _ (rows : Rows) (base entry : ℕ) {pen : Pen} {d : ℕ} (disk : d ≡ get_or rows.checked.shelf.now.table entry 0) where
  module _ (fits : Fits pen (entry_word rows base entry)) where
    pub disk_fits : Fits pen (spaced (decimal d))
    unfolding entry_word
    disk_fits = rw disk (fits_front (spaced (decimal (get_or rows.checked.shelf.now.table entry 0))) (colon ∷ decimal (base + get_or rows.ranks entry 0)) fits)

    pub offset_fits : {between : Pen} → Wrote pen (spaced (decimal d)) between → Fits between (colon ∷ decimal (base + get_or rows.ranks entry 0))
    unfolding entry_word
    offset_fits p = fits_rest fits (rw disk at p)

  pub wrote_entry : {between colon_there after : Pen} → Wrote pen (spaced (decimal d)) between → Wrote between (colon ∷ []) colon_there
      → {o : ℕ} → o ≡ get_or rows.ranks entry 0 → Wrote colon_there (decimal (base + o)) after → Wrote pen (entry_word rows base entry) after
  unfolding entry_word
  wrote_entry p q rank r = wrote_then (rw disk at p) (wrote_then {x = colon ∷ []} q (rw rank at r))
