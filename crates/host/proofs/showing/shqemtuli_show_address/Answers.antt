-- `host::shqemtuli_show_address` meets its contract: which of the two parts is empty tells the three cases. Assumes nothing.
use mathlib.Core.Path.{◌≡◌, ◌∙◌}
use Rattle.std.proofs.Common.{rules, length}
use Rattle.parity.specs.inner.Shapes.{UnitCall}
use Rattle.host.proofs.Starts.{place_there, address_refused, address_call, address-second, address_here}
use Rattle.host.proofs.showing.shqemtuli_show_address.Goals as goal
use Rattle.host.proofs.showing.shqemtuli_show_address.Goals.{Else-is_empty}

some : (c : Else-is_empty) → length c.show_address-part.result.now ≡ 0 → ⊥
some c = search rules

call : (c : Else-is_empty) → UnitCall c.shelf-taken.result c.args.image.now c.args.address c.args.other.now
call c = address_call _ _ _ _ c.show_address-part.ensures (some c)

pub returns-then-is_empty : goal.returns-then-is_empty
returns-then-is_empty c =
    let none : length c.show_address-part.result.now ≡ 0 = search rules in
    rw (← c.shelf-taken.ensures) (address_refused _ _ _ _ c.show_address-part.ensures none)

pub invariant_of-checked : goal.invariant_of-checked
invariant_of-checked c = record { passed = (call (goal.at.invariant_of-checked c).Else-is_empty).stored.shelf }

pub spot-spot-requires : goal.spot-spot-requires
spot-spot-requires c = (call (goal.at.spot-spot-requires c).Else-is_empty).address

pub returns-then-is_empty-2 : goal.returns-then-is_empty-2
returns-then-is_empty-2 c =
    let none : length c.show_place-here.result.now ≡ 0 = search rules in
    let part = some (goal.at.returns-then-is_empty-2 c).Else-is_empty in
    rw (← c.shelf-taken.ensures) (address-second _ _ _ _ c.show_address-part.ensures part c.spot-spot.ensures c.show_place-here.ensures none)

pub start-requires : goal.start-requires
start-requires c =
    let here : length c.show_place-here.result.now ≡ 0 → ⊥ = search rules in
    let w = place_there _ _ _ _ c.show_place-here.ensures here in
    (w.1, w.2)

pub returns : goal.returns
returns c =
    let here : length c.show_place-here.result.now ≡ 0 → ⊥ = search rules in
    let part = some (goal.at.returns c).Else-is_empty in
    rw (← c.shelf-taken.ensures)
    (c.start.ensures ∙ address_here _ _ _ _ c.show_address-part.ensures part c.spot-spot.ensures c.show_place-here.ensures here)
