-- A refused call leaves what was lent as it was; with its refusal a host gets the shelf and counts of zero. Assumes nothing.
use mathlib.Core.Path.{◌≡◌, refl, sym, ◌∙◌}
use mathlib.Core.List.{List}
use Prim.Native.Nat.{ℕ}
use lib.ListN.{length}
use Rattle.std.specs.Prelude.{Err, Result}
use Rattle.design.specs.declared.Refusal.{Refusal}
use Rattle.design.specs.declared.Shelf.{Shelf}
use Rattle.design.specs.Refusals.{Verdict, verdict}
use Rattle.parity.specs.declared.Cost.{Cost}
use Rattle.parity.specs.declared.Rebuilding.{Rebuilding}
use Rattle.parity.specs.Units.{zeros}
use Rattle.design.specs.Refusals.{first_broken}
use Rattle.parity.specs.Calls.{costs, Answered, Blanked, ReadOut, Wrote, WroteStripe, lost, Rebuilt, whole_rules, lose_rules, scrubbed, cost, cost_of, rebuilt_shelf, counts_of, wrong_of, losing_of}
use Rattle.parity.proofs.By.{by_refused, answer_refused}

-- a refusal of a call that counts units: it has none
pub record NoCost (x : Refusal) (answer : Result Cost Refusal) : Type 0 where
  pub refused : answer ≡ Err x
  pub none : cost_of answer ≡ cost 0 0

-- of every call that counts units
costs_refused : {v : Verdict} (r w : ℕ) {new old : List ℕ} (x : Refusal) {answer : Result Cost Refusal} {after : List ℕ} → verdict answer ≡ Err x
    → Answered (costs v r w) v new old answer after → NoCost x answer × (after ≡ old)
costs_refused r w x e P = let a = answer_refused _ _ P.answers x e in (record { refused = a.1; none = rw a.1 }, P.leaves ∙ by_refused _ _ a.0)

module _ (h : Shelf) (image : List ℕ) (x : Refusal) where
  pub blank_refused : (after : List ℕ) → Blanked h image (Err x) after → after ≡ image
  blank_refused after P = P.leaves ∙ by_refused (zeros (length image)) image (sym P.answers)

  pub rebuild_refused : (answer : Result Rebuilding Refusal) (after : List ℕ) → Rebuilt h image answer after → verdict answer ≡ Err x
      → (answer ≡ Err x) × (rebuilt_shelf h answer ≡ h) × (counts_of answer ≡ zeros 64) × (after ≡ image)
  rebuild_refused answer after P e = let a = answer_refused _ _ P.answers x e in (a.1, rw a.1, rw a.1, P.leaves ∙ by_refused _ image a.0)

  pub scrub_refused : verdict (scrubbed h image) ≡ Err x → wrong_of (scrubbed h image) ≡ 0
  unfolding scrubbed
  scrub_refused e = rw (answer_refused (first_broken (whole_rules h (length image))) _ refl x e).1

  -- ---- at an address or a stripe

  module _ (a : ℕ) (buffer : List ℕ) (answer : Result Cost Refusal) (after : List ℕ) (e : verdict answer ≡ Err x) where
    pub read_refused : ReadOut h image a buffer answer after → NoCost x answer × (after ≡ buffer)
    read_refused = costs_refused _ _ x e

    pub write_refused : Wrote h image a buffer answer after → NoCost x answer × (after ≡ image)
    write_refused = costs_refused _ _ x e

    pub stripe_write_refused : WroteStripe h image a buffer answer after → NoCost x answer × (after ≡ image)
    stripe_write_refused = costs_refused _ _ x e

pub lose_refused : (h : Shelf) (d : ℕ) (x : Refusal) → verdict (lost h d) ≡ Err x → losing_of h (lost h d) ≡ h
unfolding lost
lose_refused h d x e = rw (answer_refused (first_broken (lose_rules h d)) _ refl x e).1
