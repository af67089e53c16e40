-- The promises of placing, looking up and running.
use Rattle.std.specs.Prelude.{◌≡◌, ◌≢◌, List, [], ◌∷◌, ℕ, zero, suc, ◌+◌, ◌*◌, ◌/◌, ◌%◌, length, Result}
use Rattle.std.specs.Prelude.{Ok, Err}
use Rattle.design.specs.declared.Refusal.{Refusal}
use Rattle.design.specs.Refusals.{Verdict}
use Rattle.design.specs.Refusals.{number_given, first_broken}
use Rattle.placement.specs.declared.Spot.{Spot}
use Rattle.placement.specs.declared.LookUp.{LookUp}
use Rattle.placement.specs.Layout.{Layout, layout_in}
use Rattle.placement.specs.Placed.{spot_of, placed, looked_up, run_rules}
use Rattle.parity.specs.Calls.{by}
use Rattle.host.specs.Numbers.{numbered}
use Rattle.host.specs.Value.{shelf_in}
use Rattle.host.specs.Answers.{Into}

-- ---- placing: disk, offset, and those of the parity

unfoldable pub spot_numbers : Spot → List ℕ
spot_numbers x = x.disk ∷ x.offset ∷ x.parity_disk ∷ x.parity_offset ∷ []

unfoldable pub placing_into : Result Spot Refusal → List ℕ → List ℕ
placing_into (Ok x) out = numbered out 0 (spot_numbers x)
placing_into (Err x) out = out

abbrev pub HostPlaced : List ℕ → ℕ → List ℕ → ℕ → List ℕ → Type 0
HostPlaced value a out r out' =
    Into 4 out r (out' ≡ out)
    ((r ≡ number_given (placed (shelf_in value) a)) × (out' ≡ placing_into (placed (shelf_in value) a) out))

-- ---- looking up: stripe, address, and 1 for parity

unfoldable pub look_up_into : Result LookUp Refusal → List ℕ → List ℕ
look_up_into (Ok (LookUp.Data s a)) out = numbered out 0 (s ∷ a ∷ 0 ∷ [])
look_up_into (Ok (LookUp.Parity s)) out = numbered out 0 (s ∷ 0 ∷ 1 ∷ [])
look_up_into (Err x) out = out

abbrev pub HostLookedUp : List ℕ → ℕ → ℕ → List ℕ → ℕ → List ℕ → Type 0
HostLookedUp value d o out r out' =
    Into 3 out r (out' ≡ out)
    ((r ≡ number_given (looked_up (shelf_in value) d o)) × (out' ≡ look_up_into (looked_up (shelf_in value) d o) out))

-- ---- running: 16 bytes for each record

-- the places of n addresses from a on, from record i of the bytes on
unfoldable pub spots_into : Layout → ℕ → ℕ → ℕ → List ℕ → List ℕ
spots_into L a i zero out = out
spots_into L a i (suc n) out = spots_into L (a + 1) (i + 1) n (numbered out (4 * i) (spot_numbers (spot_of L a)))

abbrev pub run_verdict : List ℕ → ℕ → List ℕ → Verdict
run_verdict value first out = first_broken (run_rules (shelf_in value) first (length out / 16))

abbrev pub run_into : List ℕ → ℕ → List ℕ → List ℕ
run_into value first out =
    by (run_verdict value first out) (spots_into (layout_in (shelf_in value)) first 0 (length out / 16) out) out

-- bytes that are no whole records are number 13 before anything is looked at
pub record HostRan (value : List ℕ) (first : ℕ) (out : List ℕ) (r : ℕ) (out' : List ℕ) : Type 0 where
  pub fits : length out % 16 ≡ 0 → (r ≡ number_given (run_verdict value first out)) × (out' ≡ run_into value first out)
  pub other : length out % 16 ≢ 0 → (r ≡ 13) × (out' ≡ out)
