-- Over the promises of accepted calls: a read gives what is remembered, each write changes the memory, losing, rebuilding and
-- blanking keep it or clear it, and a scrub of what is remembered finds no wrong stripe. Assumes nothing.
use mathlib.Core.Path.{◌≡◌, sym, ap, ◌∙◌, refl}
use mathlib.Core.List.{List}
use Prim.Native.Nat.{ℕ, ◌-◌}
use native.Mathlib.Nat.{div-add-mod'}
use lib.ListN.{length}
use Rattle.std.specs.Prelude.{Ok, Result}
use Rattle.design.specs.declared.Refusal.{Refusal}
use Rattle.design.specs.declared.Shelf.{Shelf}
use Rattle.placement.specs.Layout.{layout_in, stripe_of, j_of}
use Rattle.design.specs.Refusals.{first_broken, verdict}
use Rattle.parity.specs.declared.Cost.{Cost}
use Rattle.parity.specs.declared.Rebuilding.{Rebuilding}
use Rattle.parity.specs.Units.{zeros, put}
use Rattle.parity.specs.Stripe.{unit_size}
use Rattle.parity.specs.Calls.{fetched, read_cost, whole_rules, Blanked, ReadOut, Wrote, WroteStripe, lost, Rebuilt, scrubbed, rebuilt_shelf, wrong_of, losing_of, lose_rules}
use Rattle.parity.proofs.By.{by_accepted, cost_accepted, answer_accepted}
use Rattle.parity.proofs.Accepted.{whole_accepted, unit_accepted, lose_accepted, call_stripe-lt, call_data_lt}
use Rattle.parity.proofs.PromisedWrite.{write_leaves, write_call}
use Rattle.parity.proofs.PromisedStripe.{stripe_write_leaves, stripe_write_call}
use Rattle.parity.proofs.PromisedRebuild.{rebuild_shelf_is, rebuild_leaves}
use Rattle.parity.proofs.Wrong.{scrub_zero}
use Rattle.parity.proofs.Memory.{Keeps, reads_memory}
use Rattle.parity.proofs.Remembered.{with_stripe, unit_write_remembered, stripe_write_remembered}
use Rattle.parity.proofs.Survived.{lose_keeps, rebuild_keeps_memory}
use Rattle.parity.proofs.Blanks.{blank_keeps, whole_right}

module _ (h : Shelf) (image : List ℕ) where
  pub blank_remembers : (after : List ℕ) → Blanked h image (Ok tt) after → Keeps h after (λ a. zeros (unit_size h))
  blank_remembers after P =
      let v = sym P.answers in
      let w = (whole_accepted h image).0 v in
      rw (P.leaves ∙ by_accepted (zeros (length image)) image v ∙ ap zeros w.stored.size) (blank_keeps h w.stored.shelf)

  module _ (memory : ℕ → List ℕ) (K : Keeps h image memory) where
    pub read_remembers : (a : ℕ) (buffer : List ℕ) (answer : Result Cost Refusal) (after : List ℕ) → ReadOut h image a buffer answer after → verdict answer ≡ Ok tt → after ≡ memory a
    read_remembers a buffer answer after P e =
        let c = cost_accepted (read_cost h (stripe_of (layout_in h) a) (j_of (layout_in h) a)) 0 P.answers e in
        let w = (unit_accepted h image a buffer).0 c.accepted in
        P.leaves ∙ by_accepted (fetched h image (stripe_of (layout_in h) a) (j_of (layout_in h) a)) buffer c.accepted ∙ reads_memory h image memory K a w.address

    pub write_remembers : (a : ℕ) (unit : List ℕ) (answer : Result Cost Refusal) (after : List ℕ) → Wrote h image a unit answer after → verdict answer ≡ Ok tt → Keeps h after (put memory a unit)
    write_remembers a unit answer after P e =
        let w = write_call h a unit image answer after P e in
        rw (write_leaves h a unit image answer after P e)
        (rw (div-add-mod' a (h.k - 1)) at (unit_write_remembered h image memory K (stripe_of (layout_in h) a) (j_of (layout_in h) a) unit (call_stripe-lt w) (call_data_lt w) w.exact))

    pub stripe_write_remembers : (s : ℕ) (buffer : List ℕ) (answer : Result Cost Refusal) (after : List ℕ) → WroteStripe h image s buffer answer after → verdict answer ≡ Ok tt
        → Keeps h after (with_stripe h memory s buffer)
    stripe_write_remembers s buffer answer after P e =
        rw (stripe_write_leaves h s buffer image answer after P e)
        (stripe_write_remembered h image memory K s buffer (stripe_write_call h s buffer image answer after P e).exact)

    pub lose_remembers : (d : ℕ) → verdict (lost h d) ≡ Ok tt → Keeps (losing_of h (lost h d)) image memory
    unfolding lost
    lose_remembers d e =
        let w = (lose_accepted h d).0 (answer_accepted (first_broken (lose_rules h d)) _ refl e).0 in
        rw (answer_accepted (first_broken (lose_rules h d)) _ refl e).1 (lose_keeps h image memory K d w.whole w.disk)

    pub rebuild_remembers : (answer : Result Rebuilding Refusal) (after : List ℕ) → Rebuilt h image answer after → verdict answer ≡ Ok tt → Keeps (rebuilt_shelf h answer) after memory
    rebuild_remembers answer after P e =
        rw (rebuild_shelf_is h image answer after P e, rebuild_leaves h image answer after P e) (rebuild_keeps_memory h image memory K)

    pub scrub_remembers : first_broken (whole_rules h (length image)) ≡ Ok tt → wrong_of (scrubbed h image) ≡ 0
    scrub_remembers e = (scrub_zero h image e).1 (whole_right h image memory K ((whole_accepted h image).0 e).whole)
