-- Texts that a pen writes one after another. Assumes nothing.
use mathlib.Core.Path.{◌≡◌, refl, sym, ap, ap₂, ◌∙◌}
use mathlib.Core.List.{List, [], ◌++◌, append_assoc, append-nil}
use Prim.Native.Nat.{ℕ, ◌≤◌}
use native.Mathlib.Omega.{arith}
use Rattle.std.specs.Borrow.{MutBor}
use lib.ListN.{length, take, drop, length-append, length-drop, take-append-drop}
use lib.Seq.{drop-drop, length-take-le}
use Rattle.layout.specs.declared.pen.Pen.{Pen}
use Rattle.layout.specs.inner.Steps.{written, rest, Fits, Wrote, Lent, Begins}

module _ {pen : Pen} where
  pub wrote_nothing : Wrote pen [] pen
  wrote_nothing = record { same = refl; moves = omega arith; writes = sym (append-nil (written pen)); leaves = refl }

  pub wrote_then : {x y : List ℕ} {between after : Pen} → Wrote pen x between → Wrote between y after → Wrote pen (x ++ y) after
  wrote_then {x} {y} p q =
      record {
        same = q.same ∙ p.same;
        moves = omega (arith, q.moves, p.moves, length-append x y);
        writes = q.writes ∙ ap (λ (l : List ℕ). l ++ y) p.writes ∙ append_assoc (written pen) x y;
        leaves =
            q.leaves
            ∙ ap (drop (length y)) p.leaves
            ∙ drop-drop (length y) (length x) (rest pen)
            ∙ ap (λ (n : ℕ). drop n (rest pen)) (sym (length-append x y));
      }

  -- where both texts fit, the first does, and then the second after it
  pub fits_front : (x y : List ℕ) → Fits pen (x ++ y) → Fits pen x
  fits_front x y fits = record { room = omega (arith, fits.room, length-append x y) }

  -- the buffer is as long as it was
  pub kept_length : {text : List ℕ} {after : Pen} → Fits pen text → Wrote pen text after → length after.out.now ≡ length pen.out.now
  kept_length {text} {after} fits p =
      omega (
        arith,
        fits.room,
        ap length (take-append-drop after.at after.out.now),
        length-append (written after) (rest after),
        ap length p.writes,
        length-append (written pen) text,
        length-take-le pen.at pen.out.now (omega (arith, fits.room)),
        ap length p.leaves,
        length-drop (length text) (rest pen),
        length-drop pen.at pen.out.now,
      )

  pub fits_rest : {x y : List ℕ} {between : Pen} → Fits pen (x ++ y) → Wrote pen x between → Fits between y
  fits_rest {x} {y} fits p =
      record { room = omega (arith, fits.room, length-append x y, p.moves, kept_length (fits_front x y fits) p) }

module _ {buffer : MutBor (List ℕ)} {pen : Pen} (l : Lent buffer pen) where
  pub lent_fits : {text : List ℕ} → length text ≤ length buffer.now → Fits pen text
  lent_fits h = record { room = omega (arith, h, l.first, ap length l.as_lent, length-drop pen.at pen.out.now) }

  -- what is in the buffer once the pen is gone
  pub begins : {text out : List ℕ} {after : Pen} → Wrote pen text after → (buffer.ghost_name ≡ after.out.ghost_name → out ≡ after.out.now)
      → Begins buffer.now text after.at out
  begins {text} {out} {after} p back =
      let none : written pen ≡ [] = ap (λ (n : ℕ). take n pen.out.now) l.first in
      record {
        is_length = omega (arith, p.moves, l.first);
        leaves =
            back (sym (p.same ∙ l.same))
            ∙ sym (take-append-drop after.at after.out.now)
            ∙ ap₂ ◌++◌ (p.writes ∙ ap (λ (w : List ℕ). w ++ text) none) (p.leaves ∙ ap (drop (length text)) l.as_lent);
      }
