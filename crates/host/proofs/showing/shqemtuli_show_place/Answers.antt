-- `host::shqemtuli_show_place` meets its contract: whether the part is empty tells whether it is refused. Assumes nothing.
use mathlib.Core.Path.{◌≡◌, ◌∙◌}
use Rattle.std.proofs.Common.{rules, length}
use Rattle.host.proofs.Starts.{place_there, start_refused, start-at}
use Rattle.host.proofs.showing.shqemtuli_show_place.Goals as goal
use Rattle.host.proofs.showing.shqemtuli_show_place.Goals.{Else-is_empty}

some : (c : Else-is_empty) → length c.show_place-part.result.now ≡ 0 → ⊥
some c = search rules

pub returns-then-is_empty : goal.returns-then-is_empty
returns-then-is_empty c =
    let none : length c.show_place-part.result.now ≡ 0 = search rules in
    rw (← c.shelf-taken.ensures) (start_refused _ _ _ _ c.show_place-part.ensures none)

pub invariant_of-checked : goal.invariant_of-checked
invariant_of-checked c = record { passed = (place_there _ _ _ _ c.show_place-part.ensures (some (goal.at.invariant_of-checked c).Else-is_empty)).0 }

pub start-requires : goal.start-requires
start-requires c =
    let w = place_there _ _ _ _ c.show_place-part.ensures (some (goal.at.start-requires c).Else-is_empty) in
    (w.1, w.2)

pub returns : goal.returns
returns c =
    rw (← c.shelf-taken.ensures)
    (c.start.ensures ∙ start-at _ _ _ _ c.show_place-part.ensures (some (goal.at.returns c).Else-is_empty))
