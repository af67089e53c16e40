-- Where a shown part starts: what its length tells of the call, and that the bytes there are those shown. Assumes nothing.
use mathlib.Core.Path.{◌≡◌, refl, sym, ap, ◌∙◌}
use mathlib.Core.Logic.{◌↔◌}
use mathlib.Core.Bool.{true, false, cond}
use mathlib.Core.List.{List, [], ◌∷◌}
use Prim.Native.Nat.{ℕ, ◌+◌, ◌*◌, ◌≤◌, ◌<◌}
use native.Mathlib.Omega.{arith}
use lib.Arith.{digits_lt}
use lib.ListN.{length, take, drop}
use lib.Pow.{pow_pos}
use Rattle.std.specs.Prelude.{Ok, Err}
use Rattle.design.specs.declared.Refusal.{Refusal}
use Rattle.design.specs.declared.Shelf.{Shelf}
use Rattle.design.specs.Refusals.{Verdict}
use Rattle.design.specs.Refusals.{first_broken}
use Rattle.design.specs.Shelf.{is_shelf}
use Rattle.placement.specs.Layout.{layout_in, stripe_of, j_of}
use Rattle.placement.specs.declared.Spot.{Spot}
use Rattle.placement.specs.Placed.{spot_of}
use Rattle.parity.specs.Units.{unit_at}
use Rattle.parity.specs.Stripe.{unit_size, depth, units, unit_in, present, cell}
use Rattle.parity.specs.Calls.{by, place_rules, place_shown, unit_rules, address_shown}
use Rattle.parity.specs.inner.Shapes.{UnitCall}
use Rattle.parity.proofs.Accepted.{PlaceCall, show_place_accepted, unit_accepted}
use Rattle.parity.proofs.By.{by_accepted, by_refused}
use Rattle.parity.proofs.Cases.{cases}
use Rattle.parity.proofs.Image.{unit_fits}
use Rattle.parity.proofs.Shown.{place_empty, place_unit, address_empty}
use Rattle.parity.proofs.Spots.{spot-unit, spot_place}
use Rattle.host.specs.Stored.{refused_start, second_start, place_start, address_start}

none_is : (l : List ℕ) → length l ≡ 0 → l ≡ []
none_is [] e = refl
none_is (x ∷ l) e = absurd (omega arith)

-- a verdict that is no refusal
not_refused : (v : Verdict) → ((x : Refusal) → v ≡ Err x → ⊥) → v ≡ Ok tt
not_refused (Ok tt) no-refusal = refl
not_refused (Err x) no-refusal = absurd (no-refusal x refl)

-- where the empty part is shown exactly by a refusal: a part of no bytes is a refusal, any other an accepted call
module _ {v : Verdict} {part all : List ℕ} (shown : part ≡ all) (empty : (all ≡ []) ↔ ((x : Refusal) × (v ≡ Err x))) where
  part_refused : {A : Type 0} (new old : A) → length part ≡ 0 → old ≡ by v new old
  part_refused new old e = sym (by_refused new old (empty.0 (sym shown ∙ none_is part e)).1)

  part_accepted : (length part ≡ 0 → ⊥) → v ≡ Ok tt
  part_accepted some = not_refused v (λ x e. some (ap length (shown ∙ empty.1 (x, e))))

-- ---- a place

module _ (h : Shelf) (image : List ℕ) (d o : ℕ) where
  abbrev v : Verdict
  v = first_broken (place_rules h (length image) d o)

  module _ {part : List ℕ} (shown : part ≡ place_shown h image d o) where
    pub start_refused : length part ≡ 0 → refused_start ≡ place_start h (length image) d o
    unfolding place_start
    start_refused e = part_refused shown (place_empty h image d o) _ _ e

    module _ (some : length part ≡ 0 → ⊥) where
      place_accepted : v ≡ Ok tt
      place_accepted = part_accepted shown (place_empty h image d o) some

      place_call : PlaceCall h image d o
      place_call = (show_place_accepted h image d o).0 place_accepted

      -- so the place is one of the shelf's
      pub place_there : (is_shelf h ≡ true) × (d < h.v) × (o < depth h)
      place_there = (place_call.stored.shelf, place_call.disk, place_call.offset)

      pub start-at : (d * depth h + o) * unit_size h ≡ place_start h (length image) d o
      unfolding place_start
      start-at = sym (by_accepted _ _ place_accepted)

  -- the U bytes from there on are the part that is shown, and they are in the image
  pub start_shows : first_broken (place_rules h (length image) d o) ≡ Ok tt
      → (take (unit_size h) (drop (place_start h (length image) d o) image) ≡ place_shown h image d o)
      × (place_start h (length image) d o + unit_size h ≤ length image)
  unfolding place_start place_shown unit_at
  start_shows e =
      let w = (show_place_accepted h image d o).0 e in
      let at = by_accepted ((d * depth h + o) * unit_size h) refused_start e in (
        ap (λ (n : ℕ). take (unit_size h) (drop n image)) at ∙ sym (by_accepted _ [] e),
        rw at (unit_fits (unit_size h) (units h) image w.stored.size (d * depth h + o) (digits_lt w.disk w.offset)),
      )

-- ---- an address

module _ (h : Shelf) (image : List ℕ) (a : ℕ) (other : List ℕ) where
  abbrev judged : Verdict
  judged = first_broken (unit_rules h (length image) a (length other))

  abbrev unit : ℕ
  unit = unit_in h (stripe_of (layout_in h) a) (j_of (layout_in h) a)

  module _ {part : List ℕ} (shown : part ≡ address_shown h image a other) where
    pub address_refused : length part ≡ 0 → refused_start ≡ address_start h (length image) a (length other)
    unfolding address_start
    address_refused e = part_refused shown (address_empty h image a other) _ _ e

    module _ (some : length part ≡ 0 → ⊥) where
      address_accepted : judged ≡ Ok tt
      address_accepted = part_accepted shown (address_empty h image a other) some

      pub address_call : UnitCall h image a other
      address_call = (unit_accepted h image a other).0 address_accepted

      start_is : address_start h (length image) a (length other) ≡ cond (present h unit) (unit * unit_size h) second_start
      unfolding address_start
      start_is = by_accepted _ refused_start address_accepted

      -- from the image exactly where its place may be shown
      module _ {spot : Spot} (placed : spot ≡ spot_of (layout_in h) a) {here : List ℕ} (found : here ≡ place_shown h image spot.disk spot.offset) where
        place_is : spot.disk * depth h + spot.offset ≡ unit
        place_is = rw placed (spot-unit h address_call.stored.shelf a address_call.address)

        present_shows : present h unit ≡ true → length here ≡ 0 → ⊥
        present_shows p e =
            let call : PlaceCall h image spot.disk spot.offset =
            record {
              stored = address_call.stored;
              disk = rw placed (spot_place h address_call.stored.shelf a address_call.address).0;
              offset = rw placed (spot_place h address_call.stored.shelf a address_call.address).1;
              here = ap (present h) place_is ∙ p;
            } in
            let whole = (place_unit h image spot.disk spot.offset ((show_place_accepted h image spot.disk spot.offset).1 call)).1 in
            omega (arith, ap length found, whole, pow_pos h.u)

        pub address-second : length here ≡ 0 → second_start ≡ address_start h (length image) a (length other)
        address-second e =
            cases (present h unit) (λ p. absurd (present_shows p e))
            (λ p. sym (start_is ∙ ap (λ t. cond t (unit * unit_size h) second_start) p))

        pub address_here : (length here ≡ 0 → ⊥) → (spot.disk * depth h + spot.offset) * unit_size h ≡ address_start h (length image) a (length other)
        address_here there =
            let p : present h unit ≡ true = ap (present h) (sym place_is) ∙ (place_call h image spot.disk spot.offset found there).here in
            ap (λ (n : ℕ). n * unit_size h) place_is ∙ sym (start_is ∙ ap (λ t. cond t (unit * unit_size h) second_start) p)

  -- the U bytes from there on, or the second buffer, are the part that is shown
  module _ (e : first_broken (unit_rules h (length image) a (length other)) ≡ Ok tt) where
    pub address_shows : present h unit ≡ true → take (unit_size h) (drop (address_start h (length image) a (length other)) image) ≡ address_shown h image a other
    unfolding address_start address_shown cell unit_at
    address_shows p =
        ap (λ (n : ℕ). take (unit_size h) (drop n image)) (by_accepted (cond (present h unit) (unit * unit_size h) second_start) refused_start e ∙ ap (λ t. cond t (unit * unit_size h) second_start) p)
        ∙ sym (by_accepted (cond (present h unit) (cell h image (stripe_of (layout_in h) a) (j_of (layout_in h) a)) other) [] e ∙ ap (λ t. cond t (cell h image (stripe_of (layout_in h) a) (j_of (layout_in h) a)) other) p)

    pub second_shows : present h unit ≡ false → (address_start h (length image) a (length other) ≡ second_start) × (address_shown h image a other ≡ other)
    unfolding address_start address_shown
    second_shows p = (
      by_accepted _ refused_start e ∙ ap (λ t. cond t (unit * unit_size h) second_start) p,
      by_accepted _ [] e ∙ ap (λ t. cond t (cell h image (stripe_of (layout_in h) a) (j_of (layout_in h) a)) other) p,
    )
