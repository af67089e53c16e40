-- An accepted read counts the units that it takes, and two images that agree on them give the same answer and the same bytes.
-- Assumes nothing.
use mathlib.Core.Path.{◌≡◌, sym, ap, ◌∙◌}
use mathlib.Core.Bool.{Bool}
use mathlib.Core.List.{List}
use Prim.Native.Nat.{ℕ}
use native.Mathlib.Omega.{arith}
use lib.ListN.{length}
use Rattle.std.specs.Prelude.{Ok, Result}
use Rattle.design.specs.declared.Refusal.{Refusal}
use Rattle.design.specs.declared.Shelf.{Shelf}
use Rattle.design.specs.Refusals.{Verdict, verdict}
use Rattle.design.specs.Count.{count}
use Rattle.placement.specs.Layout.{layout_in, stripe_of, j_of}
use Rattle.design.specs.Refusals.{first_broken}
use Rattle.parity.specs.declared.Cost.{Cost}
use Rattle.parity.specs.Stripe.{units}
use Rattle.parity.specs.Calls.{by, costs, unit_rules, read_cost, fetched, ReadOut, cost_of}
use Rattle.parity.proofs.By.{by_same, same_verdict, cost_accepted}
use Rattle.parity.proofs.Accepted.{unit_accepted, call_stripe-lt, call_data_lt}
use Rattle.parity.proofs.Sets.{read_set, read_size}
use Rattle.parity.proofs.Defined.{Agree, read_defined}

-- the units that a read of address a takes
abbrev pub read_at : Shelf → ℕ → ℕ → Bool
read_at h a = read_set h (stripe_of (layout_in h) a) (j_of (layout_in h) a)

module _ (h : Shelf) (a : ℕ) (buffer : List ℕ) where
  abbrev s : ℕ
  s = stripe_of (layout_in h) a

  abbrev j : ℕ
  j = j_of (layout_in h) a

  pub read_counts : (image : List ℕ) (answer : Result Cost Refusal) (after : List ℕ) → ReadOut h image a buffer answer after → verdict answer ≡ Ok tt
      → ((cost_of answer).read ≡ count (read_at h a) (units h)) × ((cost_of answer).written ≡ 0)
  read_counts image answer after P e =
      let c = cost_accepted (read_cost h s j) 0 P.answers e in
      let w = (unit_accepted h image a buffer).0 c.accepted in
      let l = call_data_lt w in
      (c.read ∙ sym (read_size h w.stored.shelf s (call_stripe-lt w) j (omega arith)), c.written)

  pub read_same : (x y : List ℕ) (answer answer' : Result Cost Refusal) (after after' : List ℕ) → ReadOut h x a buffer answer after → ReadOut h y a buffer answer' after'
      → length x ≡ length y → Agree h (read_at h a) x y → (answer ≡ answer') × (after ≡ after')
  unfolding unit_rules
  read_same x y answer answer' after after' P Q len same =
      let v : first_broken (unit_rules h (length x) a (length buffer)) ≡ first_broken (unit_rules h (length y) a (length buffer)) = same_verdict h x y _ len in (
        P.answers ∙ ap (λ (v : Verdict). costs v (read_cost h s j) 0) v ∙ sym Q.answers,
        P.leaves
            ∙ by_same (first_broken (unit_rules h (length x) a (length buffer))) (fetched h x s j) (fetched h y s j) buffer given
            ∙ ap (λ (v : Verdict). by v (fetched h y s j) buffer) v
            ∙ sym Q.leaves,
      )
    where
      given : first_broken (unit_rules h (length x) a (length buffer)) ≡ Ok tt → fetched h x s j ≡ fetched h y s j
      given e =
          let w = (unit_accepted h x a buffer).0 e in
          let l = call_data_lt w in
          read_defined h w.stored.shelf x y s j (call_stripe-lt w) (omega arith) same
