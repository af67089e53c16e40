-- The digits of a number, written from the last to the first. Assumes nothing.
use mathlib.Core.Path.{◌≡◌, sym, ap, ◌∙◌}
use mathlib.Core.List.{List, [], ◌∷◌, ◌++◌}
use Prim.Native.Nat.{ℕ, ◌+◌, ◌<◌}
use lib.ListN.{length, set, take, drop}
use lib.Seq.{append_snoc, drop-drop, take-add, take_at, drop_at}
use Rattle.std.proofs.lemmas.List.{drop-set}
use Rattle.layout.specs.declared.pen.Pen.{Pen}
use Rattle.layout.specs.Text.{decimal}

-- the digits of what is left of n and the bytes from i on are n's digits and the bytes after them
pub record Left (n end : ℕ) (pen : Pen) (rest i : ℕ) (later : Pen) : Type 0 where
  pub same : later.out.ghost_name ≡ pen.out.ghost_name
  pub at : later.at ≡ pen.at
  pub kept : length later.out.now ≡ length pen.out.now
  pub before : take pen.at later.out.now ≡ take pen.at pen.out.now
  pub left : i ≡ pen.at + length (decimal rest)
  pub digits : decimal rest ++ drop i later.out.now ≡ decimal n ++ drop end pen.out.now

-- the last byte of a text is stored before the bytes that stand there
pub last_stored : (out text : List ℕ) (y i : ℕ) → i < length out → text ++ drop i (set out i y) ≡ text ++ y ∷ [] ++ drop (i + 1) out
last_stored out text y i h =
    ap (λ (l : List ℕ). text ++ l) (drop-set out i y h) ∙ sym (append_snoc text y (drop (i + 1) out))

-- all of it stands there, with the bytes after it as they were
module _ (buffer out : List ℕ) (at n : ℕ) (text : List ℕ) (is : n ≡ length text) (e : drop at out ≡ text ++ drop (at + n) buffer) where
  pub text_before : take (at + n) out ≡ take at out ++ text
  text_before = take-add at n out ∙ ap (λ (l : List ℕ). take at out ++ l) (ap (take n) e ∙ take_at text (drop (at + n) buffer) n (sym is))

  pub text_after : drop (at + n) out ≡ drop (length text) (drop at buffer)
  text_after =
      sym (drop-drop n at out)
      ∙ ap (drop n) e
      ∙ drop_at text (drop (at + n) buffer) n (sym is)
      ∙ ap (λ (j : ℕ). drop (at + j) buffer) is
      ∙ sym (drop-drop (length text) at buffer)
