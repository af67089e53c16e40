-- The calls that write a text, by the first rule that is broken. Assumes nothing.
use mathlib.Core.Path.{◌≡◌, sym, ap, ◌∙◌}
use mathlib.Core.Bool.{true, false}
use mathlib.Core.List.{List}
use Prim.Native.Nat.{ℕ, ◌+◌, ◌*◌, ◌≤◌, ◌<◌}
use lib.ListN.{length}
use borrow.Author.Tests.{le-leb, lt-leb}
use Rattle.std.specs.Prelude.{Ok, Err}
use Rattle.design.specs.declared.Shelf.{Shelf}
use Rattle.design.specs.declared.Refusal.{Refusal}
use Rattle.design.specs.declared.Refusal.TheVariants.{NotAShelf, OutOfRange, OtherBuffer}
use Rattle.design.specs.Refusals.{Verdict, answered}
use Rattle.design.specs.Refusals.{Rule, first_broken}
use Rattle.design.specs.Shelf.{is_shelf}
use Rattle.placement.specs.Layout.{layout_in, stripes}
use Rattle.layout.specs.Calls.{buffer_by, Written, line_room, refused_rules, first_rules, lines_rules}
use Rattle.layout.specs.inner.Steps.{Begins}

-- ---- what was put in is what was promised, and a refusal leaves the buffer

module _ (rules : List Rule) (text buffer : List ℕ) where
  pub accepted : {n : ℕ} {after : List ℕ} → first_broken rules ≡ Ok tt → Begins buffer text n after → Written rules text buffer (Ok n) after
  unfolding answered buffer_by
  accepted e p =
      record {
        answers = ap Ok p.is_length ∙ ap (λ (v : Verdict). answered v (length text)) (sym e);
        leaves = p.leaves ∙ ap (λ (v : Verdict). buffer_by v text buffer) (sym e);
      }

  pub refused : {x : Refusal} → first_broken rules ≡ Err x → Written rules text buffer (Err x) buffer
  unfolding answered buffer_by
  refused e = record { answers = ap (λ (v : Verdict). answered v (length text)) (sym e); leaves = ap (λ (v : Verdict). buffer_by v text buffer) (sym e) }

-- ---- the rules

module _ (buffer : List ℕ) where
  pub refused_kept : line_room ≤ length buffer → first_broken (refused_rules buffer) ≡ Ok tt
  unfolding first_broken refused_rules
  refused_kept h = rw (le-leb line_room (length buffer) h)

  pub refused_short : length buffer < line_room → first_broken (refused_rules buffer) ≡ Err OtherBuffer
  unfolding first_broken refused_rules
  refused_short h = rw (lt-leb line_room (length buffer) h)

  module _ (h : Shelf) where
    pub first_kept : is_shelf h ≡ true → line_room ≤ length buffer → first_broken (first_rules h buffer) ≡ Ok tt
    unfolding first_broken first_rules
    first_kept e l = rw (e, le-leb line_room (length buffer) l)

    pub first_not_a-shelf : is_shelf h ≡ false → first_broken (first_rules h buffer) ≡ Err NotAShelf
    unfolding first_broken first_rules
    first_not_a-shelf e = rw e

    pub first_short : is_shelf h ≡ true → length buffer < line_room → first_broken (first_rules h buffer) ≡ Err OtherBuffer
    unfolding first_broken first_rules
    first_short e l = rw (e, lt-leb line_room (length buffer) l)

    module _ (first n : ℕ) where
      pub lines_not_a-shelf : is_shelf h ≡ false → first_broken (lines_rules h first n buffer) ≡ Err NotAShelf
      unfolding first_broken lines_rules
      lines_not_a-shelf e = rw e

      pub lines_out_of_range : is_shelf h ≡ true → stripes (layout_in h) < first + n → first_broken (lines_rules h first n buffer) ≡ Err OutOfRange
      unfolding first_broken lines_rules
      lines_out_of_range e l = rw (e, lt-leb (first + n) (stripes (layout_in h)) l)

      module _ (e : is_shelf h ≡ true) (l : first + n ≤ stripes (layout_in h)) where
        pub lines_short : length buffer < n * line_room → first_broken (lines_rules h first n buffer) ≡ Err OtherBuffer
        unfolding first_broken lines_rules
        lines_short m = rw (e, le-leb (first + n) (stripes (layout_in h)) l, lt-leb (n * line_room) (length buffer) m)

        pub lines_kept : n * line_room ≤ length buffer → first_broken (lines_rules h first n buffer) ≡ Ok tt
        unfolding first_broken lines_rules
        lines_kept m = rw (e, le-leb (first + n) (stripes (layout_in h)) l, le-leb (n * line_room) (length buffer) m)
