-- The rules that several calls share, as the code tries them.
use Rattle.std.specs.Prelude.{Bool, List, [], ◌∷◌, ℕ}
use Rattle.design.specs.declared.Shelf.{Shelf}
use Rattle.design.specs.declared.Refusal.{Refusal}
use Rattle.design.specs.Refusals.{Rule}
use Rattle.design.specs.Shelf.{shelf_rule}
use Rattle.parity.specs.Calls.{image_rule}

-- one rule
abbrev pub rule_of : Bool → Refusal → List Rule
rule_of kept refusal = record { refusal = refusal; kept = kept } ∷ []

-- of an image of n bytes
abbrev pub image_rules : Shelf → ℕ → List Rule
image_rules h n = shelf_rule h ∷ image_rule h n ∷ []
