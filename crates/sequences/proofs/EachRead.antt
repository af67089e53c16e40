-- "Each accepted read gives the unit last written at its address, or zeros." At any point of a sequence, whichever disk is lost
-- then; and which reads are accepted. Assumes nothing.
use mathlib.Core.Path.{◌≡◌, sym, ◌∙◌}
use mathlib.Core.Logic.{◌↔◌, ◌≢◌}
use mathlib.Core.List.{List, [], ◌∷◌, ◌++◌}
use Prim.Native.Nat.{ℕ, ◌<◌}
use lib.ListN.{length}
use Rattle.std.specs.Prelude.{Ok, Result}
use Rattle.design.specs.declared.Refusal.{Refusal}
use Rattle.design.specs.declared.Shelf.{Shelf}
use Rattle.design.specs.Refusals.{first_broken, verdict}
use Rattle.placement.specs.Layout.{layout_in, addresses, stripe_of, j_of}
use Rattle.parity.specs.declared.Cost.{Cost}
use Rattle.parity.specs.Stripe.{unit_size, unit_in, present}
use Rattle.parity.specs.Calls.{unit_rules, fetched, address_shown}
use Rattle.parity.proofs.By.{by_accepted, by_refused, answer_verdict}
use Rattle.parity.proofs.Cases.{cases}
use Rattle.parity.proofs.Accepted.{unit_accepted}
use Rattle.parity.proofs.Memory.{Keeps, reads_memory}
use Rattle.parity.proofs.PromisedMemory.{read_remembers}
use Rattle.sequences.specs.Sequence.{Event, look, read, show_address, State, Run, shelf_from}
use Rattle.sequences.specs.Written.{last_written}
use Rattle.sequences.proofs.Verdicts.{by-verdict}
use Rattle.sequences.proofs.Moments.{moment}
use Rattle.sequences.proofs.Shelves.{run_shelf}
use Rattle.sequences.proofs.Remembers.{run_remembers}

-- ---- read

module _ (sheet : List ℕ) (before rest : List Event) (z : State) (a : ℕ) (buffer after : List ℕ) (answer : Result Cost Refusal)
    (R : Run sheet (before ++ look (read a buffer answer after) ∷ rest) z) where
  -- "Each accepted read gives the unit last written at its address, or zeros."
  pub read_gives_last : verdict answer ≡ Ok tt → after ≡ last_written (shelf_from sheet) before a
  read_gives_last e =
      let m = moment before R in
      let x = m.here in
      read_remembers x.shelf x.image (last_written (shelf_from sheet) before) (run_remembers sheet before x m.run) a buffer answer after m.step.0 e

  -- accepted for an address below N and a buffer of U bytes, whatever came before
  pub read_accepted : (verdict answer ≡ Ok tt) ↔ ((a < addresses (layout_in (shelf_from sheet))) × (length buffer ≡ unit_size (shelf_from sheet)))
  read_accepted =
      let m = moment before R in
      let x = m.here in
      let is = answer_verdict _ _ m.step.0.answers in
      let K = run_remembers sheet before x m.run in
      let w = unit_accepted x.shelf x.image a buffer in
      let same = run_shelf sheet before x m.run in (
        λ e. let c = w.0 (sym is ∙ e) in (rw same at c.address, rw same at c.exact),
        λ p. is ∙ w.1 (record { stored = K.stored; address = rw same p.0; exact = rw same p.1 }),
      )

-- ---- show address

-- what is shown, where the second buffer has what is remembered
shown : (h : Shelf) (image : List ℕ) (memory : ℕ → List ℕ) → Keeps h image memory → (a : ℕ) (other : List ℕ) → other ≡ memory a
    → address_shown h image a other ≢ [] → address_shown h image a other ≡ memory a
unfolding address_shown fetched
shown h image memory K a other filled some = by-verdict (first_broken (unit_rules h (length image) a (length other)))
    (λ v.
    let is : fetched h image (stripe_of (layout_in h) a) (j_of (layout_in h) a) ≡ memory a = reads_memory h image memory K a ((unit_accepted h image a other).0 v).address in
    by_accepted _ [] v
    ∙ cases (present h (unit_in h (stripe_of (layout_in h) a) (j_of (layout_in h) a))) (λ p. rw p (rw p at is)) (λ p. rw p filled))
    (λ r v. absurd (some (by_refused _ [] v)))

-- "otherwise from the caller's second buffer, which a read has filled": then it shows the unit last written
pub show_gives_last : (sheet : List ℕ) (before rest : List Event) (z : State) (a : ℕ) (other part : List ℕ)
    → Run sheet (before ++ look (show_address a other part) ∷ rest) z → other ≡ last_written (shelf_from sheet) before a → part ≢ []
    → part ≡ last_written (shelf_from sheet) before a
show_gives_last sheet before rest z a other part R filled some =
    let m = moment before R in
    let x = m.here in
    let is = m.step.0 in
    is ∙ shown x.shelf x.image _ (run_remembers sheet before x m.run) a other filled (λ e. some (is ∙ e))
