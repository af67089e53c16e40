-- An accepted stripe write reads no unit, counts those that it writes and keeps every other: any two images give the same
-- answer and the same bytes written. Assumes nothing.
use mathlib.Core.Path.{◌≡◌, sym, ap, ◌∙◌}
use mathlib.Core.List.{List}
use Prim.Native.Nat.{ℕ}
use lib.ListN.{length}
use Rattle.std.specs.Prelude.{Ok, Result}
use Rattle.design.specs.declared.Refusal.{Refusal}
use Rattle.design.specs.declared.Shelf.{Shelf}
use Rattle.design.specs.Refusals.{Verdict, verdict}
use Rattle.design.specs.Count.{count}
use Rattle.design.specs.Refusals.{first_broken}
use Rattle.parity.specs.declared.Cost.{Cost}
use Rattle.parity.specs.Stripe.{units}
use Rattle.parity.specs.Calls.{costs, stripe_rules, stripe_writes, stripe_written, WroteStripe, cost_of}
use Rattle.parity.specs.inner.Shapes.{StripeCall}
use Rattle.parity.proofs.By.{by_accepted, same_verdict, Costs, cost_accepted}
use Rattle.parity.proofs.Accepted.{stripe_write_accepted}
use Rattle.parity.proofs.Sets.{stripe_set, stripe_size}
use Rattle.parity.proofs.Defined.{Agree, stripe_write_defined}
use Rattle.parity.proofs.Kept.{Kept, stripe_write_kept}

module _ (h : Shelf) (s : ℕ) (buffer : List ℕ) where
  module _ (image : List ℕ) (answer : Result Cost Refusal) (after : List ℕ) (P : WroteStripe h image s buffer answer after) (e : verdict answer ≡ Ok tt) where
    c : Costs (first_broken (stripe_rules h (length image) s (length buffer))) 0 (stripe_writes h s) answer
    c = cost_accepted 0 (stripe_writes h s) P.answers e

    pub stripe_write_call : StripeCall h image s buffer
    stripe_write_call = (stripe_write_accepted h image s buffer).0 c.accepted

    pub stripe_write_counts : ((cost_of answer).read ≡ 0) × ((cost_of answer).written ≡ count (stripe_set h s) (units h))
    stripe_write_counts =
        let w = stripe_write_call in
        (c.read, c.written ∙ sym (stripe_size h w.stored.shelf s w.stripe))

    pub stripe_write_leaves : after ≡ stripe_written h image s buffer
    stripe_write_leaves = P.leaves ∙ by_accepted (stripe_written h image s buffer) image c.accepted

    pub stripe_write_keeps : Kept h (stripe_set h s) image after
    stripe_write_keeps =
        let w = stripe_write_call in
        rw stripe_write_leaves (stripe_write_kept h w.stored.shelf image w.stored.size s buffer w.exact)

  pub stripe_write_same : (x y : List ℕ) (answer answer' : Result Cost Refusal) (after after' : List ℕ)
      → WroteStripe h x s buffer answer after → WroteStripe h y s buffer answer' after' → length x ≡ length y
      → (answer ≡ answer') × (verdict answer ≡ Ok tt → Agree h (stripe_set h s) after after')
  unfolding stripe_rules
  stripe_write_same x y answer answer' after after' P Q len =
      let v : first_broken (stripe_rules h (length x) s (length buffer)) ≡ first_broken (stripe_rules h (length y) s (length buffer)) = same_verdict h x y _ len in
      let one : answer ≡ answer' = P.answers ∙ ap (λ (v : Verdict). costs v 0 (stripe_writes h s)) v ∙ sym Q.answers in
      (one, λ e. written e (sym (ap verdict one) ∙ e))
    where
      written : verdict answer ≡ Ok tt → verdict answer' ≡ Ok tt → Agree h (stripe_set h s) after after'
      written e e' =
          let u = stripe_write_call x answer after P e in
          rw (stripe_write_leaves x answer after P e, stripe_write_leaves y answer' after' Q e')
          (stripe_write_defined h u.stored.shelf x y s buffer u.exact u.stored.size (sym len ∙ u.stored.size))
