-- All that is printed for a sheet: sheet B's text as document 01 has it, and that the calls give every sheet's text part by part.
-- Assumes nothing.
use mathlib.Core.Path.{◌≡◌, refl, sym, ap, ◌∙◌}
use mathlib.Core.List.{List, ◌++◌}
use Prim.Native.Nat.{ℕ, ◌+◌}
use native.Mathlib.Nat.{add_assoc}
use Rattle.std.specs.Prelude.{Ok, Err, Result}
use Rattle.design.specs.declared.Refusal.{Refusal}
use Rattle.fields.specs.Field.{field, bit_at}
use Rattle.design.specs.declared.Shelf.{Shelf}
use Rattle.design.specs.Refusals.{answered}
use Rattle.design.specs.Count.{count, every, list_from}
use Rattle.design.specs.Refusals.{first_broken}
use Rattle.design.specs.Tuples.{has, holds, before, shared, disks_below, again, none_twice, disks_even, pairs_even}
use Rattle.design.specs.Sheet.{sheet_length, table_of, within_limits, filling_zero, sheet_rules, shelf_of, opened}
use Rattle.placement.specs.Layout.{Layout, layout_in, split_of, place_of, offset_of}
use Rattle.layout.specs.declared.Start.{Start}
use Rattle.layout.specs.Text.{last_digits, decimal, place_text, joined, first_line, place_word, stripe_line, lines_from, refused_line, text_by, layout_text}
use Rattle.layout.specs.Calls.{started, started_by}
use Rattle.layout.specs.Known.{sheet_b, text_b}
use Rattle.layout.proofs.Joined.{joined_ext, joined-add}

-- ---- sheet B

pub text_of_B : layout_text sheet_b ≡ text_b
unfolding sheet_b text_b layout_text text_by first_line lines_from stripe_line place_word place_text place_of offset_of split_of joined decimal last_digits opened answered sheet_rules first_broken shelf_of table_of list_from field bit_at count every has holds before shared disks_below again none_twice disks_even pairs_even sheet_length within_limits filling_zero
text_of_B = refl

-- ---- part by part

-- the lines of m + n stripes are those of the first m and those of the n after them
pub lines_add : (L : Layout) (first m n : ℕ) → lines_from L first (m + n) ≡ lines_from L first m ++ lines_from L (first + m) n
unfolding lines_from
lines_add L first m n =
    joined-add m n (λ i. stripe_line L (first + i))
    ∙ ap (λ (l : List ℕ). joined m (λ i. stripe_line L (first + i)) ++ l)
    (joined_ext n _ (λ i. stripe_line L (first + m + i)) (λ i l. ap (stripe_line L) (sym (add_assoc first m i))))

-- what the program prints is by what opening starts with
abbrev text_from : Result Start ℕ → List ℕ
text_from (Ok w) = first_line w.shelf ++ lines_from (layout_in w.shelf) 0 w.stripes
text_from (Err n) = refused_line n

pub text_from_start : (s : List ℕ) → text_from (started s) ≡ layout_text s
unfolding started layout_text started_by text_by
text_from_start s = go (opened s)
  where
    go : (o : Result Shelf Refusal) → text_from (started_by o) ≡ text_by o
    go (Ok h) = refl
    go (Err x) = refl
