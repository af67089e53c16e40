-- Which number each call gives, as numerals in the order in which they are tried (document 01, "Numbers a caller can get"); a show
-- gives the empty part exactly where one of its numbers applies. Assumes nothing.
use mathlib.Core.Path.{◌≡◌, refl, ap, ◌∙◌}
use mathlib.Core.Logic.{◌↔◌}
use mathlib.Core.Bool.{not, ◌&&◌}
use mathlib.Core.List.{List, [], ◌∷◌}
use Prim.Native.Nat.{ℕ, ◌+◌, ◌-◌, ◌*◌, ◌≤◌}
use native.Mathlib.Omega.{arith}
use lib.Dec.{ltb, eqb}
use lib.ListN.{length}
use Rattle.std.specs.Prelude.{Ok, Err, Result}
use Rattle.design.proofs.Refused.{number_answered}
use Rattle.design.specs.declared.Refusal.{Refusal}
use Rattle.design.specs.declared.Shelf.{Shelf}
use Rattle.design.specs.Refusals.{Verdict, number_given}
use Rattle.design.specs.Refusals.{number, first_broken}
use Rattle.design.specs.Loss.{is_whole}
use Rattle.design.specs.Shelf.{is_shelf}
use Rattle.design.proofs.Lowest.{some_number}
use Rattle.design.proofs.Numerals.{Case, case, first_of, rules_give}
use Rattle.placement.specs.Layout.{layout_in, stripes, addresses}
use Rattle.parity.specs.declared.Cost.{Cost}
use Rattle.parity.specs.declared.Rebuilding.{Rebuilding}
use Rattle.parity.specs.Stripe.{unit_size, depth, image_size, present}
use Rattle.parity.specs.Calls.{whole_rules, unit_rules, stripe_rules, lose_rules, rebuild_rules, place_rules, Blanked, ReadOut, Wrote, WroteStripe, lost, Rebuilt, scrubbed, place_shown, address_shown}
use Rattle.parity.proofs.Shown.{place_empty, address_empty}

-- ---- the cases of calls that ask alike

-- blank and scrub, of an image of n bytes
abbrev pub whole_cases : Shelf → ℕ → List Case
whole_cases h n = case 10 (not (is_shelf h)) ∷ case 11 (not (eqb n (image_size h))) ∷ case 14 (not (is_whole h.loss)) ∷ []

-- read, unit write and show address, with a unit buffer of m bytes
abbrev pub unit_cases : Shelf → ℕ → ℕ → ℕ → List Case
unit_cases h n a m =
    case 10 (not (is_shelf h)) ∷ case 11 (not (eqb n (image_size h))) ∷ case 12 (not (ltb a (addresses (layout_in h)))) ∷ case 13 (not (eqb m (unit_size h))) ∷ []

unit-number : (h : Shelf) (n a m : ℕ) → number_given (first_broken (unit_rules h n a m)) ≡ first_of (unit_cases h n a m)
unfolding unit_rules number
unit-number h n a m =
    let one : 1 * unit_size h ≡ unit_size h = omega arith in
    rules_give (unit_rules h n a m) ∙ ap (λ (size : ℕ). first_of (case 10 (not (is_shelf h)) ∷ case 11 (not (eqb n (image_size h))) ∷ case 12 (not (ltb a (addresses (layout_in h)))) ∷ case 13 (not (eqb m size)) ∷ [])) one

-- ---- the calls

module _ (h : Shelf) (image : List ℕ) where
  pub blank_gives : (answer : Verdict) (after : List ℕ) → Blanked h image answer after → number_given answer ≡ first_of (whole_cases h (length image))
  unfolding whole_rules number
  blank_gives answer after P = ap number_given P.answers ∙ rules_give (whole_rules h (length image))

  pub scrub_gives : number_given (scrubbed h image) ≡ first_of (whole_cases h (length image))
  unfolding scrubbed whole_rules number
  scrub_gives = number_answered _ _ ∙ rules_give (whole_rules h (length image))

  pub read_gives : (a : ℕ) (buffer after : List ℕ) (answer : Result Cost Refusal) → ReadOut h image a buffer answer after
      → number_given answer ≡ first_of (unit_cases h (length image) a (length buffer))
  read_gives a buffer after answer P = ap number_given P.answers ∙ number_answered _ _ ∙ unit-number h (length image) a (length buffer)

  pub write_gives : (a : ℕ) (unit after : List ℕ) (answer : Result Cost Refusal) → Wrote h image a unit answer after
      → number_given answer ≡ first_of (unit_cases h (length image) a (length unit))
  write_gives a unit after answer P = ap number_given P.answers ∙ number_answered _ _ ∙ unit-number h (length image) a (length unit)

  pub write_stripe_gives : (s : ℕ) (buffer after : List ℕ) (answer : Result Cost Refusal) → WroteStripe h image s buffer answer after
      → number_given answer ≡ first_of (case 10 (not (is_shelf h))
      ∷ case 11 (not (eqb (length image) (image_size h)))
      ∷ case 12 (not (ltb s (stripes (layout_in h))))
      ∷ case 13 (not (eqb (length buffer) ((h.k - 1) * unit_size h)))
      ∷ [])
  unfolding stripe_rules number
  write_stripe_gives s buffer after answer P = ap number_given P.answers ∙ number_answered _ _ ∙ rules_give (stripe_rules h (length image) s (length buffer))

  pub rebuild_gives : (answer : Result Rebuilding Refusal) (after : List ℕ) → Rebuilt h image answer after
      → number_given answer ≡ first_of (case 10 (not (is_shelf h)) ∷ case 11 (not (eqb (length image) (image_size h))) ∷ case 15 (not (not (is_whole h.loss))) ∷ [])
  unfolding rebuild_rules number
  rebuild_gives answer after P = ap number_given P.answers ∙ number_answered _ _ ∙ rules_give (rebuild_rules h (length image))

pub lose_gives : (h : Shelf) (d : ℕ) → number_given (lost h d)
    ≡ first_of (case 10 (not (is_shelf h)) ∷ case 12 (not (ltb d h.v)) ∷ case 14 (not (is_whole h.loss)) ∷ [])
unfolding lost lose_rules number
lose_gives h d = number_answered _ _ ∙ rules_give (lose_rules h d)

-- ---- the shows

-- a verdict is a refusal exactly where its number is not 0
refused_number : (v : Verdict) → ((x : Refusal) × (v ≡ Err x)) ↔ (1 ≤ number_given v)
refused_number (Ok tt) = (λ r. let z : ◌≡◌ {A = ℕ} 0 1 = cc r.1 in absurd (omega arith), λ l. absurd (omega arith))
refused_number (Err x) = (λ r. some_number x, λ l. (x, refl))

empty_number : {A : Type 0} (v : Verdict) (n : ℕ) → number_given v ≡ n → (A ↔ ((x : Refusal) × (v ≡ Err x))) → A ↔ (1 ≤ n)
empty_number v n e w = (λ a. rw (← e) ((refused_number v).0 (w.0 a)), λ l. w.1 ((refused_number v).1 (rw e l)))

pub show_place_gives : (h : Shelf) (image : List ℕ) (d o : ℕ) → (place_shown h image d o ≡ [])
    ↔ (1 ≤ first_of (case 10 (not (is_shelf h))
    ∷ case 11 (not (eqb (length image) (image_size h)))
    ∷ case 12 (not (ltb d h.v && ltb o (depth h)))
    ∷ case 14 (not (present h (d * depth h + o)))
    ∷ []))
unfolding place_rules number
show_place_gives h image d o = empty_number (first_broken (place_rules h (length image) d o)) _ (rules_give (place_rules h (length image) d o)) (place_empty h image d o)

pub show_address_gives : (h : Shelf) (image : List ℕ) (a : ℕ) (other : List ℕ) → (address_shown h image a other ≡ [])
    ↔ (1 ≤ first_of (unit_cases h (length image) a (length other)))
show_address_gives h image a other = empty_number (first_broken (unit_rules h (length image) a (length other))) _ (unit-number h (length image) a (length other)) (address_empty h image a other)
