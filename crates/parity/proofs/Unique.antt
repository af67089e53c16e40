-- Two answers that one promise allows are equal, and so is what they leave. Assumes nothing.
use mathlib.Core.Path.{◌≡◌, sym, ◌∙◌}
use mathlib.Core.List.{List}
use Prim.Native.Nat.{ℕ}
use Rattle.std.specs.Prelude.{Result}
use Rattle.design.specs.declared.Refusal.{Refusal}
use Rattle.design.specs.declared.Shelf.{Shelf}
use Rattle.design.specs.Refusals.{Verdict}
use Rattle.parity.specs.declared.Cost.{Cost}
use Rattle.parity.specs.declared.Rebuilding.{Rebuilding}
use Rattle.parity.specs.Calls.{Answered, Blanked, ReadOut, Wrote, WroteStripe, lost, Rebuilt, scrubbed, place_shown, address_shown, cost_of, losing_of, rebuilt_shelf, counts_of, wrong_of}

-- of every call that answers and leaves bytes
answered_unique : {A : Type 0} {said : A} {v : Verdict} {new old : List ℕ} {r r' : A} {after after' : List ℕ} → Answered said v new old r after
    → Answered said v new old r' after' → (r ≡ r') × (after ≡ after')
answered_unique p q = (p.answers ∙ sym q.answers, p.leaves ∙ sym q.leaves)

module _ (h : Shelf) (image : List ℕ) where
  pub blanked_unique : (r r' : Verdict) (after after' : List ℕ) → Blanked h image r after → Blanked h image r' after' → (r ≡ r') × (after ≡ after')
  blanked_unique r r' after after' = answered_unique

  pub rebuilt_unique : (r r' : Result Rebuilding Refusal) (after after' : List ℕ) → Rebuilt h image r after → Rebuilt h image r' after' → (r ≡ r') × (after ≡ after')
  rebuilt_unique r r' after after' = answered_unique

  pub scrubbed_unique : (r r' : Result ℕ Refusal) → r ≡ scrubbed h image → r' ≡ scrubbed h image → r ≡ r'
  scrubbed_unique r r' p q = p ∙ sym q

  pub place_shown_unique : (d o : ℕ) (r r' : List ℕ) → r ≡ place_shown h image d o → r' ≡ place_shown h image d o → r ≡ r'
  place_shown_unique d o r r' p q = p ∙ sym q

  -- a is an address or a stripe, and x a unit, a buffer or the second buffer
  module _ (a : ℕ) (x : List ℕ) where
    pub read_out_unique : (r r' : Result Cost Refusal) (after after' : List ℕ) → ReadOut h image a x r after → ReadOut h image a x r' after' → (r ≡ r') × (after ≡ after')
    read_out_unique r r' after after' = answered_unique

    pub wrote_unique : (r r' : Result Cost Refusal) (after after' : List ℕ) → Wrote h image a x r after → Wrote h image a x r' after' → (r ≡ r') × (after ≡ after')
    wrote_unique r r' after after' = answered_unique

    pub wrote_stripe_unique : (r r' : Result Cost Refusal) (after after' : List ℕ) → WroteStripe h image a x r after → WroteStripe h image a x r' after' → (r ≡ r') × (after ≡ after')
    wrote_stripe_unique r r' after after' = answered_unique

    pub address_shown_unique : (r r' : List ℕ) → r ≡ address_shown h image a x → r' ≡ address_shown h image a x → r ≡ r'
    address_shown_unique r r' p q = p ∙ sym q

pub lost_unique : (h : Shelf) (d : ℕ) (r r' : Result Shelf Refusal) → r ≡ lost h d → r' ≡ lost h d → r ≡ r'
lost_unique h d r r' p q = p ∙ sym q

-- ---- what an answer hands back

pub cost_of_unique : (x : Result Cost Refusal) (r r' : Cost) → r ≡ cost_of x → r' ≡ cost_of x → r ≡ r'
cost_of_unique x r r' p q = p ∙ sym q

pub losing_of_unique : (h : Shelf) (x : Result Shelf Refusal) (r r' : Shelf) → r ≡ losing_of h x → r' ≡ losing_of h x → r ≡ r'
losing_of_unique h x r r' p q = p ∙ sym q

pub rebuilt_shelf_unique : (h : Shelf) (x : Result Rebuilding Refusal) (r r' : Shelf) → r ≡ rebuilt_shelf h x → r' ≡ rebuilt_shelf h x → r ≡ r'
rebuilt_shelf_unique h x r r' p q = p ∙ sym q

pub counts_of_unique : (x : Result Rebuilding Refusal) (r r' : List ℕ) → r ≡ counts_of x → r' ≡ counts_of x → r ≡ r'
counts_of_unique x r r' p q = p ∙ sym q

pub wrong_of_unique : (x : Result ℕ Refusal) (r r' : ℕ) → r ≡ wrong_of x → r' ≡ wrong_of x → r ≡ r'
wrong_of_unique x r r' p q = p ∙ sym q
