-- The promises of the calls on the stored bytes: those of the calls below, on the shelf value in the lent bytes.
use Rattle.std.specs.Prelude.{◌≡◌, cond, List, [], ◌∷◌, ℕ, ◌+◌, ◌*◌, Result, Ok, Err}
use Rattle.design.specs.declared.Refusal.{Refusal}
use Rattle.design.specs.declared.Shelf.{Shelf}
use Rattle.design.specs.Refusals.{Verdict}
use Rattle.design.specs.Refusals.{number_given, first_broken}
use Rattle.placement.specs.Layout.{layout_in, stripe_of, j_of}
use Rattle.parity.specs.declared.Cost.{Cost}
use Rattle.parity.specs.declared.Rebuilding.{Rebuilding}
use Rattle.parity.specs.Stripe.{unit_size, depth, unit_in, present}
use Rattle.parity.specs.Calls.{by, cost_of, counts_of, wrong_of, place_rules, unit_rules, Blanked, ReadOut, Wrote, WroteStripe, lost, Rebuilt, scrubbed}
use Rattle.host.specs.Numbers.{numbered}
use Rattle.host.specs.Value.{shelf_in, with_shelf, shelf_into}
use Rattle.host.specs.Answers.{Told, Into}

abbrev pub HostBlanked : List ℕ → List ℕ → ℕ → List ℕ → Type 0
HostBlanked value image r image' =
    Told (λ (x : Verdict). Blanked (shelf_in value) image x image') (λ (x : Verdict). r ≡ number_given x)

-- ---- calls that answer counts of units: those read, then those written

abbrev pub CostGiven : List ℕ → ℕ → List ℕ → Result Cost Refusal → Type 0
CostGiven cost r cost' x = (r ≡ number_given x) × (cost' ≡ numbered cost 0 ((cost_of x).read ∷ (cost_of x).written ∷ []))

abbrev pub HostWrote : List ℕ → List ℕ → ℕ → List ℕ → List ℕ → ℕ → List ℕ → List ℕ → Type 0
HostWrote value image a unit cost r image' cost' =
    Into 2 cost r ((image' ≡ image) × (cost' ≡ cost))
    (Told (λ (x : Result Cost Refusal). Wrote (shelf_in value) image a unit x image') (CostGiven cost r cost'))

abbrev pub HostWroteStripe : List ℕ → List ℕ → ℕ → List ℕ → List ℕ → ℕ → List ℕ → List ℕ → Type 0
HostWroteStripe value image s buffer cost r image' cost' =
    Into 2 cost r ((image' ≡ image) × (cost' ≡ cost))
    (Told (λ (x : Result Cost Refusal). WroteStripe (shelf_in value) image s buffer x image') (CostGiven cost r cost'))

abbrev pub HostReadOut : List ℕ → List ℕ → ℕ → List ℕ → List ℕ → ℕ → List ℕ → List ℕ → Type 0
HostReadOut value image a buffer cost r buffer' cost' =
    Into 2 cost r ((buffer' ≡ buffer) × (cost' ≡ cost))
    (Told (λ (x : Result Cost Refusal). ReadOut (shelf_in value) image a buffer x buffer') (CostGiven cost r cost'))

-- ---- calls that change the shelf value

abbrev pub HostLost : List ℕ → ℕ → ℕ → List ℕ → Type 0
HostLost value d r value' = (r ≡ number_given (lost (shelf_in value) d)) × (value' ≡ shelf_into (lost (shelf_in value) d) value)

unfoldable pub rebuilt_into : Result Rebuilding Refusal → List ℕ → List ℕ
rebuilt_into (Ok x) value = with_shelf value x.shelf
rebuilt_into (Err x) value = value

abbrev pub RebuildingGiven : List ℕ → List ℕ → ℕ → List ℕ → List ℕ → Result Rebuilding Refusal → Type 0
RebuildingGiven value counts r value' counts' x = (r ≡ number_given x) × (value' ≡ rebuilt_into x value) × (counts' ≡ numbered counts 0 (counts_of x))

abbrev pub HostRebuilt : List ℕ → List ℕ → List ℕ → ℕ → List ℕ → List ℕ → List ℕ → Type 0
HostRebuilt value image counts r value' image' counts' =
    Into 64 counts r ((value' ≡ value) × (image' ≡ image) × (counts' ≡ counts))
    (Told (λ (x : Result Rebuilding Refusal). Rebuilt (shelf_in value) image x image') (RebuildingGiven value counts r value' counts'))

abbrev pub HostScrubbed : List ℕ → List ℕ → List ℕ → ℕ → List ℕ → Type 0
HostScrubbed value image out r out' =
    Into 1 out r (out' ≡ out)
    ((r ≡ number_given (scrubbed (shelf_in value) image)) × (out' ≡ numbered out 0 (wrong_of (scrubbed (shelf_in value) image) ∷ [])))

-- ---- show: the byte of the image at which the part starts

-- 2 ^ 64 - 1 where it is refused, and 2 ^ 64 - 2 where it is the second buffer
abbrev pub refused_start : ℕ
refused_start = 18446744073709551615

abbrev pub second_start : ℕ
second_start = 18446744073709551614

-- of an image of n bytes
unfoldable pub place_start : Shelf → ℕ → ℕ → ℕ → ℕ
place_start h n d o = by (first_broken (place_rules h n d o)) ((d * depth h + o) * unit_size h) refused_start

-- and a second buffer of m
unfoldable pub address_start : Shelf → ℕ → ℕ → ℕ → ℕ
address_start h n a m =
    let unit : ℕ = unit_in h (stripe_of (layout_in h) a) (j_of (layout_in h) a) in
    by (first_broken (unit_rules h n a m)) (cond (present h unit) (unit * unit_size h) second_start) refused_start
