-- The promises of placing, looking up and running.
use Rattle.std.specs.Prelude.{◌≡◌, Bool, cond, ◌&&◌, List, [], ◌∷◌, ℕ, suc, ◌+◌, leb, ltb, eqb, length, Result, Ok, Err}
use Rattle.design.specs.declared.Shelf.{Shelf}
use Rattle.design.specs.declared.Refusal.{Refusal}
use Rattle.design.specs.declared.Refusal.TheVariants.{OutOfRange}
use Rattle.design.specs.Refusals.{Rule, Verdict, first_broken, answered}
use Rattle.design.specs.Shelf.{shelf_rule}
use Rattle.placement.specs.declared.Spot.{Spot}
use Rattle.placement.specs.declared.LookUp.{LookUp}
use Rattle.placement.specs.Slots.{position_of}
use Rattle.placement.specs.Layout.{Layout, layout_in, addresses, offsets, stripe_of, j_of, parity_of, disk_of, offset_of, stripe_at, position_at, address_of}

abbrev pub range_rule : Bool → Rule
range_rule kept = record { refusal = OutOfRange; kept = kept }

-- ---- placing an address: the place of its unit and of its stripe's parity

unfoldable pub spot_of : Layout → ℕ → Spot
spot_of L a =
    let s : ℕ = stripe_of L a in
    let p : ℕ = position_of (parity_of L s) (j_of L a) in
    record {
      disk = disk_of L s p;
      offset = offset_of L s p;
      parity_disk = disk_of L s (parity_of L s);
      parity_offset = offset_of L s (parity_of L s);
    }

unfoldable pub place_rules : Shelf → ℕ → List Rule
place_rules h a = shelf_rule h ∷ range_rule (ltb a (addresses (layout_in h))) ∷ []

unfoldable pub placed : Shelf → ℕ → Result Spot Refusal
placed h a = answered (first_broken (place_rules h a)) (spot_of (layout_in h) a)

-- ---- looking a place up: its stripe, and its address or "parity"

unfoldable pub stands_at : Layout → ℕ → ℕ → LookUp
stands_at L d o =
    let s : ℕ = stripe_at L d o in
    let p : ℕ = position_at L d o in
    cond (eqb p (parity_of L s)) (LookUp.Parity s) (LookUp.Data s (address_of L s p))

unfoldable pub look_up_rules : Shelf → ℕ → ℕ → List Rule
look_up_rules h d o = shelf_rule h ∷ range_rule (ltb d h.v && ltb o (offsets (layout_in h))) ∷ []

unfoldable pub looked_up : Shelf → ℕ → ℕ → Result LookUp Refusal
looked_up h d o = answered (first_broken (look_up_rules h d o)) (stands_at (layout_in h) d o)

-- ---- running: the places of consecutive addresses, one for each record of the list

unfoldable pub run_rules : Shelf → ℕ → ℕ → List Rule
run_rules h first n = shelf_rule h ∷ range_rule (leb (first + n) (addresses (layout_in h))) ∷ []

unfoldable pub spots_from : Layout → ℕ → List Spot → List Spot
spots_from L a [] = []
spots_from L a (x ∷ list) = spot_of L a ∷ spots_from L (suc a) list

unfoldable pub list_by : Verdict → Shelf → ℕ → List Spot → List Spot
list_by (Ok u) h first list = spots_from (layout_in h) first list
list_by (Err x) h first list = list

pub record Ran (h : Shelf) (first : ℕ) (list : List Spot) (answer : Verdict) (after : List Spot) : Type 0 where
  pub answers : answer ≡ first_broken (run_rules h first (length list))
  pub leaves : after ≡ list_by (first_broken (run_rules h first (length list))) h first list
