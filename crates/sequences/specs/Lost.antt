-- Which disk is lost after some events: one that an accepted call declared lost, and that no accepted rebuild has restored since.
use Rattle.std.specs.Prelude.{Bool, true, false, not, ◌&&◌, List, [], ◌∷◌, ℕ}
use Rattle.design.specs.Refusals.{verdict}
use Rattle.design.specs.declared.Loss.{Loss}
use Rattle.design.specs.declared.Shelf.{Shelf}
use Rattle.design.specs.Loss.{no_loss, disk_loss, with_loss}
use Rattle.parity.specs.Calls.{by}
use Rattle.sequences.specs.Sequence.{Event, write, write_stripe, lose, rebuild, look, disturb, shelf_from}

-- after an event, where this was the loss before it
unfoldable pub loss_by : Event → Loss → Loss
loss_by (write a unit answer) loss = loss
loss_by (write_stripe s buffer answer) loss = loss
loss_by (lose d answer) loss = by (verdict answer) (disk_loss d) loss
loss_by (rebuild answer) loss = by (verdict answer) no_loss loss
loss_by (look call) loss = loss
loss_by disturb loss = loss

unfoldable pub loss_from : Loss → List Event → Loss
loss_from loss [] = loss
loss_from loss (e ∷ events) = loss_from (loss_by e loss) events

-- from the opened shelf on, which has no disk lost
abbrev pub lost_after : List Event → Loss
lost_after = loss_from no_loss

-- and the shelf, which is the opened one but for the loss
abbrev pub shelf_after : List ℕ → List Event → Shelf
shelf_after sheet events = with_loss (shelf_from sheet) (lost_after events)

-- an accepted rebuild
unfoldable pub rebuilds : Event → Bool
rebuilds (write a unit answer) = false
rebuilds (write_stripe s buffer answer) = false
rebuilds (lose d answer) = false
rebuilds (rebuild answer) = by (verdict answer) true false
rebuilds (look call) = false
rebuilds disturb = false

unfoldable pub no_rebuild : List Event → Bool
no_rebuild [] = true
no_rebuild (e ∷ events) = not (rebuilds e) && no_rebuild events
