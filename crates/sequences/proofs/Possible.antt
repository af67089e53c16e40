-- There is a sequence for every accepted sheet and every image of the right length, and from any state any call, with any
-- arguments, leads on. Assumes nothing.
use mathlib.Core.Path.{◌≡◌, refl, sym, ap, ◌∙◌}
use mathlib.Core.List.{List, []}
use Prim.Native.Nat.{ℕ}
use lib.ListN.{length}
use Rattle.std.specs.Prelude.{Ok, Result}
use Rattle.design.specs.declared.Refusal.{Refusal}
use Rattle.design.specs.Refusals.{verdict}
use Rattle.design.specs.declared.Shelf.{Shelf}
use Rattle.design.specs.Loss.{is_whole}
use Rattle.design.specs.Sheet.{opened}
use Rattle.design.proofs.Losses.{none_whole}
use Rattle.design.proofs.RoundTrip.{opened_is_shelf}
use Rattle.parity.specs.declared.Cost.{Cost}
use Rattle.parity.specs.declared.Rebuilding.{Rebuilding}
use Rattle.parity.specs.Units.{zeros}
use Rattle.parity.specs.Stripe.{image_size}
use Rattle.parity.specs.Calls.{lost, scrubbed, place_shown, address_shown, losing_of}
use Rattle.parity.proofs.By.{by_accepted}
use Rattle.parity.proofs.Accepted.{whole_accepted}
use Rattle.sequences.specs.Sequence.{write, write_stripe, lose, rebuild, look, disturb, read, scrub, show_place, show_address, Disturbed, State, Step, Steps, Run, shelf_from}
use Rattle.sequences.proofs.Shelves.{opened-whole}

pub can_start : (sheet : List ℕ) (found : List ℕ) → verdict (opened sheet) ≡ Ok tt → length found ≡ image_size (shelf_from sheet)
    → Run sheet [] (record { shelf = shelf_from sheet; image = zeros (length found) })
unfolding Steps
can_start sheet found e size =
    let h : Shelf = shelf_from sheet in
    let whole = ap (λ (h : Shelf). is_whole h.loss) (opened-whole sheet e) ∙ none_whole in
    let v = (whole_accepted h found).1 (record { stored = record { shelf = opened_is_shelf sheet e; size = size }; whole = whole }) in
    record {
      start = record { shelf = h; image = zeros (length found) };
      starts = record { accepts = e; opens = refl; found = found; blanks = record { answers = sym v; leaves = sym (by_accepted _ found v) } };
      steps = refl;
    }

module _ (x : State) where
  pub can_write : (a : ℕ) (unit : List ℕ) → (answer : Result Cost Refusal) × (y : State) × Step x (write a unit answer) y
  can_write a unit = (_, record { shelf = x.shelf; image = _ }, (record { answers = refl; leaves = refl }, refl))

  pub can_write_stripe : (s : ℕ) (buffer : List ℕ) → (answer : Result Cost Refusal) × (y : State) × Step x (write_stripe s buffer answer) y
  can_write_stripe s buffer = (_, record { shelf = x.shelf; image = _ }, (record { answers = refl; leaves = refl }, refl))

  pub can_lose : (d : ℕ) → (answer : Result Shelf Refusal) × (y : State) × Step x (lose d answer) y
  can_lose d = (lost x.shelf d, record { shelf = losing_of x.shelf (lost x.shelf d); image = x.image }, (refl, refl, refl))

  pub can_rebuild : (answer : Result Rebuilding Refusal) × (y : State) × Step x (rebuild answer) y
  can_rebuild = (_, record { shelf = _; image = _ }, (record { answers = refl; leaves = refl }, refl))

  pub can_read : (a : ℕ) (buffer : List ℕ) → (answer : Result Cost Refusal) × (after : List ℕ) × Step x (look (read a buffer answer after)) x
  can_read a buffer = (_, _, (record { answers = refl; leaves = refl }, refl))

  pub can_scrub : (answer : Result ℕ Refusal) × Step x (look (scrub answer)) x
  can_scrub = (scrubbed x.shelf x.image, (refl, refl))

  pub can_show_place : (d o : ℕ) → (part : List ℕ) × Step x (look (show_place d o part)) x
  can_show_place d o = (place_shown x.shelf x.image d o, (refl, refl))

  pub can_show_address : (a : ℕ) (other : List ℕ) → (part : List ℕ) × Step x (look (show_address a other part)) x
  can_show_address a other = (address_shown x.shelf x.image a other, (refl, refl))

  -- the lost disk's bytes may become those of any image that is the same elsewhere
  pub can_disturb : (after : List ℕ) → Disturbed x.shelf x.image after → Step x disturb (record { shelf = x.shelf; image = after })
  can_disturb after D = (D, refl)
