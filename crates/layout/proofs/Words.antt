-- Texts joined, written one after another. Assumes nothing.
use mathlib.Core.List.{List}
use Prim.Native.Nat.{ℕ, ◌+◌, ◌<◌}
use native.Mathlib.Omega.{arith}
use Rattle.layout.specs.declared.pen.Pen.{Pen}
use Rattle.layout.specs.Text.{joined}
use Rattle.layout.specs.inner.Steps.{Fits, Wrote}
use Rattle.layout.proofs.Puts.{wrote_then, fits_rest}
use Rattle.layout.proofs.Joined.{joined_next, joined-le}

module _ {pen : Pen} (f : ℕ → List ℕ) (i : ℕ) {between : Pen} (p : Wrote pen (joined i f) between) where
  -- where all fit, the next does after the first i
  pub next_fits : {n : ℕ} → i < n → Fits pen (joined n f) → Fits between (f i)
  next_fits {n} l fits =
      let more : Fits pen (joined (i + 1) f) = record { room = omega (arith, fits.room, joined-le (i + 1) n f (omega arith)) } in
      fits_rest (rw (joined_next i f) at more) p

  pub wrote_next : {after : Pen} → Wrote between (f i) after → Wrote pen (joined (i + 1) f) after
  wrote_next q = rw (joined_next i f) (wrote_then p q)
