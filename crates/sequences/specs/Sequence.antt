-- Sequences of calls on one sheet: "a blanked shelf, then unit and stripe writes, declarations of a lost disk and rebuilds, no
-- further blanking, each call on what the last one left", and the calls that only look. A step is the call's own promise.
use Rattle.std.specs.Prelude.{◌≡◌, true, List, [], ◌∷◌, ℕ, ◌<◌, length, Result}
use Rattle.std.specs.Prelude.{Ok}
use Rattle.design.specs.declared.Refusal.{Refusal}
use Rattle.design.specs.Refusals.{verdict}
use Rattle.design.specs.declared.Shelf.{Shelf}
use Rattle.design.specs.Sheet.{opened, opened_shelf}
use Rattle.parity.specs.declared.Cost.{Cost}
use Rattle.parity.specs.declared.Rebuilding.{Rebuilding}
use Rattle.parity.specs.Units.{unit_at}
use Rattle.parity.specs.Stripe.{unit_size, units, present}
use Rattle.parity.specs.Calls.{Blanked, ReadOut, Wrote, WroteStripe, lost, Rebuilt, scrubbed, place_shown, address_shown, losing_of, rebuilt_shelf}

-- a call that changes nothing that the next one meets, with its arguments and what it gives
pub data Look : Type 0 where
  -- address, buffer, and the buffer after it
  read : ℕ → List ℕ → Result Cost Refusal → List ℕ → Look
  scrub : Result ℕ Refusal → Look
  -- disk, offset, and the part shown
  show_place : ℕ → ℕ → List ℕ → Look
  -- address, second buffer, and the part shown
  show_address : ℕ → List ℕ → List ℕ → Look

-- a call with its arguments, any arguments, and its answer; or the lost disk's own bytes become anything
pub data Event : Type 0 where
  -- address, unit
  write : ℕ → List ℕ → Result Cost Refusal → Event
  -- stripe, buffer
  write_stripe : ℕ → List ℕ → Result Cost Refusal → Event
  -- disk
  lose : ℕ → Result Shelf Refusal → Event
  rebuild : Result Rebuilding Refusal → Event
  look : Look → Event
  disturb : Event

-- the shelf value that the caller holds, and the image
pub record State : Type 0 where
  pub shelf : Shelf
  pub image : List ℕ

-- every unit that is present is as it was; those of the lost disk are anything
pub record Disturbed (h : Shelf) (image after : List ℕ) : Type 0 where
  pub size : length after ≡ length image
  pub elsewhere : (n : ℕ) → n < units h → present h n ≡ true → unit_at (unit_size h) after n ≡ unit_at (unit_size h) image n

-- at x a call gives what its promise says
abbrev pub Looked : State → Look → Type 0
Looked x (read a buffer answer after) = ReadOut x.shelf x.image a buffer answer after
Looked x (scrub answer) = answer ≡ scrubbed x.shelf x.image
Looked x (show_place d o part) = part ≡ place_shown x.shelf x.image d o
Looked x (show_address a other part) = part ≡ address_shown x.shelf x.image a other

-- from x an event leads to y: a call by its promise
abbrev pub Step : State → Event → State → Type 0
Step x (write a unit answer) y = Wrote x.shelf x.image a unit answer y.image × (y.shelf ≡ x.shelf)
Step x (write_stripe s buffer answer) y = WroteStripe x.shelf x.image s buffer answer y.image × (y.shelf ≡ x.shelf)
Step x (lose d answer) y = (answer ≡ lost x.shelf d) × (y.shelf ≡ losing_of x.shelf answer) × (y.image ≡ x.image)
Step x (rebuild answer) y = Rebuilt x.shelf x.image answer y.image × (y.shelf ≡ rebuilt_shelf x.shelf answer)
Step x (look call) y = Looked x call × (y ≡ x)
Step x disturb y = Disturbed x.shelf x.image y.image × (y.shelf ≡ x.shelf)

-- each event on what the last one left
unfoldable pub Steps : State → List Event → State → Type 0
Steps x [] z = z ≡ x
Steps x (e ∷ events) z = (y : State) × (Step x e y × Steps y events z)

-- the shelf that the sheet opens to
abbrev pub shelf_from : List ℕ → Shelf
shelf_from sheet = opened_shelf sheet

-- a blanked shelf: the sheet was accepted, and an image, whatever it held, was blanked
pub record Start (sheet : List ℕ) (x : State) : Type 0 where
  pub accepts : verdict (opened sheet) ≡ Ok tt
  pub opens : x.shelf ≡ shelf_from sheet
  pub found : List ℕ
  pub blanks : Blanked x.shelf found (Ok tt) x.image

-- a sequence on the sheet, and where it ends
pub record Run (sheet : List ℕ) (events : List Event) (end : State) : Type 0 where
  pub start : State
  pub starts : Start sheet start
  pub steps : Steps start events end
