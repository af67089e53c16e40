-- Two answers that a promise allows are equal: of the calls whose promise is an equation. `opened_unique` (Refused) and
-- `wrote_back_unique` (WritingBack) are those of opening and of writing back. Assumes nothing.
use mathlib.Core.Path.{◌≡◌, sym, ◌∙◌}
use mathlib.Core.Bool.{Bool}
use Prim.Native.Nat.{ℕ}
use Rattle.std.specs.Prelude.{Result}
use Rattle.design.specs.declared.Loss.{Loss}
use Rattle.design.specs.declared.Refusal.{Refusal}
use Rattle.design.specs.declared.Shelf.{Shelf}
use Rattle.design.specs.Refusals.{number, number_given}
use Rattle.design.specs.Loss.{no_loss, disk_loss}
use Rattle.design.specs.Sheet.{empty_shelf, shelf_or_empty}
use Rattle.design.specs.Shelf.{is_shelf}

pub none_unique : (r r' : Loss) → r ≡ no_loss → r' ≡ no_loss → r ≡ r'
none_unique r r' p q = p ∙ sym q

pub of_unique : (d : ℕ) (r r' : Loss) → r ≡ disk_loss d → r' ≡ disk_loss d → r ≡ r'
of_unique d r r' p q = p ∙ sym q

pub empty_unique : (r r' : Shelf) → r ≡ empty_shelf → r' ≡ empty_shelf → r ≡ r'
empty_unique r r' p q = p ∙ sym q

pub is_shelf_unique : (h : Shelf) (r r' : Bool) → r ≡ is_shelf h → r' ≡ is_shelf h → r ≡ r'
is_shelf_unique h r r' p q = p ∙ sym q

pub number_unique : (x : Refusal) (r r' : ℕ) → r ≡ number x → r' ≡ number x → r ≡ r'
number_unique x r r' p q = p ∙ sym q

pub number_given_unique : {A : Type 0} (x : Result A Refusal) (r r' : ℕ) → r ≡ number_given x → r' ≡ number_given x → r ≡ r'
number_given_unique x r r' p q = p ∙ sym q

pub or_empty_unique : (x : Result Shelf Refusal) (r r' : Shelf) → r ≡ shelf_or_empty x → r' ≡ shelf_or_empty x → r ≡ r'
or_empty_unique x r r' p q = p ∙ sym q
