-- An accepted show is a unit, and a refused one, which no other is, the empty part. Assumes nothing.
use mathlib.Core.Path.{◌≡◌, refl, ap, ◌∙◌}
use mathlib.Core.Logic.{◌↔◌}
use mathlib.Core.Bool.{cond}
use mathlib.Core.List.{List, []}
use Prim.Native.Nat.{ℕ, ◌+◌, ◌*◌}
use native.Mathlib.Omega.{arith}
use lib.Arith.{digits_lt}
use lib.ListN.{length}
use lib.Pow.{pow_pos}
use Rattle.std.specs.Prelude.{Ok, Err}
use Rattle.design.specs.declared.Refusal.{Refusal}
use Rattle.design.specs.declared.Shelf.{Shelf}
use Rattle.design.specs.Refusals.{Verdict}
use Rattle.placement.specs.Layout.{layout_in, stripe_of, j_of}
use Rattle.design.specs.Refusals.{first_broken}
use Rattle.parity.specs.Units.{unit_at}
use Rattle.parity.specs.Stripe.{unit_size, depth, units, unit_in, present, cell}
use Rattle.parity.specs.Calls.{by, place_rules, place_shown, unit_rules, address_shown}
use Rattle.parity.proofs.Cases.{cases}
use Rattle.parity.proofs.Image.{unit-length}
use Rattle.parity.proofs.Cells.{cell-length}
use Rattle.parity.proofs.By.{by_accepted}
use Rattle.parity.proofs.Accepted.{show_place_accepted, unit_accepted, call_stripe-lt, call_data_lt}

-- a unit if accepted, else the empty part
empty_exactly : (h : Shelf) (v : Verdict) (unit : List ℕ) → (v ≡ Ok tt → length unit ≡ unit_size h) → (by v unit [] ≡ []) ↔ ((x : Refusal) × (v ≡ Err x))
unfolding by
empty_exactly h (Ok tt) unit size =
    (λ e. absurd (omega (arith, size refl, ap length e, pow_pos h.u)), λ r. let z : ◌≡◌ {A = ℕ} 0 1 = cc r.1 in absurd (omega arith))
empty_exactly h (Err x) unit size = (λ e. (x, refl), λ r. refl)

-- ---- a place

module _ (h : Shelf) (image : List ℕ) (d o : ℕ) where
  place_size : first_broken (place_rules h (length image) d o) ≡ Ok tt → length (unit_at (unit_size h) image (d * depth h + o)) ≡ unit_size h
  place_size e =
      let w = (show_place_accepted h image d o).0 e in
      unit-length (unit_size h) (units h) image w.stored.size (d * depth h + o) (digits_lt w.disk w.offset)

  pub place_empty : (place_shown h image d o ≡ []) ↔ ((x : Refusal) × (first_broken (place_rules h (length image) d o) ≡ Err x))
  unfolding place_shown
  place_empty = empty_exactly h (first_broken (place_rules h (length image) d o)) _ place_size

  pub place_unit : first_broken (place_rules h (length image) d o) ≡ Ok tt
      → (place_shown h image d o ≡ unit_at (unit_size h) image (d * depth h + o)) × (length (place_shown h image d o) ≡ unit_size h)
  unfolding place_shown
  place_unit e =
      let is = by_accepted (unit_at (unit_size h) image (d * depth h + o)) [] e in
      (is, ap length is ∙ place_size e)

-- ---- an address

module _ (h : Shelf) (image : List ℕ) (a : ℕ) (other : List ℕ) where
  abbrev s : ℕ
  s = stripe_of (layout_in h) a

  abbrev j : ℕ
  j = j_of (layout_in h) a

  address_size : first_broken (unit_rules h (length image) a (length other)) ≡ Ok tt → length (cond (present h (unit_in h s j)) (cell h image s j) other) ≡ unit_size h
  address_size e =
      let w = (unit_accepted h image a other).0 e in
      let l = call_data_lt w in
      cases (present h (unit_in h s j))
      (λ p. rw p (cell-length h w.stored.shelf image w.stored.size s j (call_stripe-lt w) (omega arith)))
      (λ p. rw p w.exact)

  pub address_empty : (address_shown h image a other ≡ []) ↔ ((x : Refusal) × (first_broken (unit_rules h (length image) a (length other)) ≡ Err x))
  unfolding address_shown
  address_empty = empty_exactly h (first_broken (unit_rules h (length image) a (length other))) _ address_size

  pub address-unit : first_broken (unit_rules h (length image) a (length other)) ≡ Ok tt → length (address_shown h image a other) ≡ unit_size h
  unfolding address_shown
  address-unit e = ap length (by_accepted _ [] e) ∙ address_size e
