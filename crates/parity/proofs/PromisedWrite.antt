-- An accepted unit write counts the units that it takes and writes, keeps every other, and two images that agree on those that
-- it takes give the same answer and the same bytes written. Assumes nothing.
use mathlib.Core.Path.{◌≡◌, sym, ap, ◌∙◌}
use mathlib.Core.Bool.{Bool, true}
use mathlib.Core.List.{List}
use Prim.Native.Nat.{ℕ, ◌-◌, ◌<◌}
use lib.ListN.{length}
use Rattle.std.specs.Prelude.{Ok, Result}
use Rattle.design.specs.declared.Refusal.{Refusal}
use Rattle.design.specs.declared.Shelf.{Shelf}
use Rattle.design.specs.Refusals.{Verdict, verdict}
use Rattle.design.specs.Count.{count}
use Rattle.placement.specs.Layout.{layout_in, stripes, stripe_of, j_of}
use Rattle.design.specs.Refusals.{first_broken}
use Rattle.parity.specs.declared.Cost.{Cost}
use Rattle.parity.specs.Units.{xor_sum}
use Rattle.parity.specs.Stripe.{unit_size, units, unit_in, present, cell}
use Rattle.parity.specs.Calls.{costs, unit_rules, write_reads, write_writes, unit_written, Wrote, cost_of}
use Rattle.parity.specs.inner.Shapes.{UnitCall}
use Rattle.parity.proofs.By.{by_accepted, same_verdict, Costs, cost_accepted}
use Rattle.parity.proofs.Accepted.{unit_accepted, call_stripe-lt, call_data_lt}
use Rattle.parity.proofs.Wrong.{unit_write_keeps}
use Rattle.parity.proofs.Sets.{write_read_set, write_set, write_read_size, write_size}
use Rattle.parity.proofs.Defined.{Agree, unit_write_defined}
use Rattle.parity.proofs.Kept.{Kept, unit_write_kept}

-- the units that a write to address a takes, and those that it writes
abbrev pub taken_at : Shelf → ℕ → ℕ → Bool
taken_at h a = write_read_set h (stripe_of (layout_in h) a) (j_of (layout_in h) a)

abbrev pub written_at : Shelf → ℕ → ℕ → Bool
written_at h a = write_set h (stripe_of (layout_in h) a) (j_of (layout_in h) a)

module _ (h : Shelf) (a : ℕ) (unit : List ℕ) where
  abbrev s : ℕ
  s = stripe_of (layout_in h) a

  abbrev j : ℕ
  j = j_of (layout_in h) a

  module _ (image : List ℕ) (answer : Result Cost Refusal) (after : List ℕ) (P : Wrote h image a unit answer after) (e : verdict answer ≡ Ok tt) where
    c : Costs (first_broken (unit_rules h (length image) a (length unit))) (write_reads h s j) (write_writes h s j) answer
    c = cost_accepted (write_reads h s j) (write_writes h s j) P.answers e

    pub write_call : UnitCall h image a unit
    write_call = (unit_accepted h image a unit).0 c.accepted

    pub write_counts : ((cost_of answer).read ≡ count (taken_at h a) (units h)) × ((cost_of answer).written ≡ count (written_at h a) (units h))
    write_counts =
        let w = write_call in
        let hs = call_stripe-lt w in
        let hj = call_data_lt w in
        (c.read ∙ sym (write_read_size h w.stored.shelf s hs j hj), c.written ∙ sym (write_size h w.stored.shelf s hs j hj))

    pub write_leaves : after ≡ unit_written h image (stripe_of (layout_in h) a) (j_of (layout_in h) a) unit
    write_leaves = P.leaves ∙ by_accepted (unit_written h image s j unit) image c.accepted

    pub write_keeps : Kept h (written_at h a) image after
    write_keeps =
        let w = write_call in
        rw write_leaves
        (unit_write_kept h w.stored.shelf image w.stored.size s j unit (call_stripe-lt w) (call_data_lt w) w.exact)

    -- data and parity present: a wrong stripe stays wrong in the same bits
    pub write_keeps_wrong : present h (unit_in h (stripe_of (layout_in h) a) (j_of (layout_in h) a)) ≡ true → present h (unit_in h (stripe_of (layout_in h) a) (h.k - 1)) ≡ true
        → (t : ℕ) → t < stripes (layout_in h) → xor_sum (unit_size h) (cell h after t) h.k ≡ xor_sum (unit_size h) (cell h image t) h.k
    write_keeps_wrong p q t ht =
        let w = write_call in
        rw write_leaves
        (unit_write_keeps h w.stored.shelf image w.stored.size s j unit (call_stripe-lt w) (call_data_lt w) w.exact p q t ht)

  pub write_same : (x y : List ℕ) (answer answer' : Result Cost Refusal) (after after' : List ℕ) → Wrote h x a unit answer after → Wrote h y a unit answer' after'
      → length x ≡ length y → Agree h (taken_at h a) x y → (answer ≡ answer') × (verdict answer ≡ Ok tt → Agree h (written_at h a) after after')
  unfolding unit_rules
  write_same x y answer answer' after after' P Q len same =
      let v : first_broken (unit_rules h (length x) a (length unit)) ≡ first_broken (unit_rules h (length y) a (length unit)) = same_verdict h x y _ len in
      let one : answer ≡ answer' = P.answers ∙ ap (λ (v : Verdict). costs v (write_reads h s j) (write_writes h s j)) v ∙ sym Q.answers in
      (one, λ e. written e (sym (ap verdict one) ∙ e))
    where
      written : verdict answer ≡ Ok tt → verdict answer' ≡ Ok tt → Agree h (written_at h a) after after'
      written e e' =
          let u = write_call x answer after P e in
          rw (write_leaves x answer after P e, write_leaves y answer' after' Q e')
          (unit_write_defined h u.stored.shelf x y s j unit (call_stripe-lt u) (call_data_lt u) same u.stored.size (sym len ∙ u.stored.size) u.exact)
