-- "Each rebuild reads from every other disk exactly lambda units for each copy of the design", no stripe is wrong after it, and
-- a scrub finds none whenever no disk is lost. Assumes nothing.
use mathlib.Core.Path.{◌≡◌, sym, ap, ◌∙◌}
use mathlib.Core.Logic.{◌↔◌, ◌≢◌, ◌⊎◌, inl, inr}
use mathlib.Core.Bool.{true, false, not, cond, ◌&&◌, and-false}
use mathlib.Core.List.{List, [], ◌∷◌, ◌++◌}
use Prim.Native.Nat.{ℕ, ◌*◌, ◌≤◌, ◌<◌}
use native.Mathlib.Omega.{arith}
use lib.Dec.{ltb, eqb}
use lib.ListN.{get_or, length}
use borrow.Author.Tests.{lt-ltb, le-ltb, eq-eqb, ne_eqb}
use Rattle.std.specs.Prelude.{Ok, Result}
use Rattle.design.specs.declared.Refusal.{Refusal}
use Rattle.design.specs.Refusals.{verdict, first_broken}
use Rattle.design.specs.declared.Shelf.{Shelf}
use Rattle.design.specs.Count.{count}
use Rattle.design.specs.Loss.{no_loss, is_whole, is_lost}
use Rattle.design.proofs.Losses.{whole_exactly, some_lost, lost_unwhole}
use Rattle.design.proofs.ShelfTests.{shelf_parts}
use Rattle.design.proofs.RoundTrip.{opened_is_shelf}
use Rattle.placement.specs.Layout.{layout_in, stripes}
use Rattle.parity.specs.declared.Rebuilding.{Rebuilding}
use Rattle.parity.specs.Stripe.{units, wrong}
use Rattle.parity.specs.Calls.{scrubbed, counts_of, wrong_of, whole_rules}
use Rattle.parity.proofs.By.{by_accepted, answer_verdict}
use Rattle.parity.proofs.Accepted.{whole_accepted, rebuild_accepted}
use Rattle.parity.proofs.Blanks.{whole_right}
use Rattle.parity.proofs.Meets.{lost_below}
use Rattle.parity.proofs.PromisedMemory.{scrub_remembers}
use Rattle.parity.proofs.PromisedRebuild.{rebuild_counts_are}
use Rattle.parity.proofs.Wrong.{right_exactly}
use Rattle.sequences.specs.Sequence.{Event, rebuild, look, scrub, State, Run, shelf_from}
use Rattle.sequences.specs.Lost.{loss_by, lost_after, shelf_after}
use Rattle.sequences.specs.Copies.{taken_for}
use Rattle.sequences.proofs.Moments.{moment}
use Rattle.sequences.proofs.Shelves.{loss_append, run_shelf, run_loss}
use Rattle.sequences.proofs.Remembers.{run_remembers}
use Rattle.sequences.proofs.Copies.{copy_takes}

-- ---- rebuild

module _ (sheet : List ℕ) (before rest : List Event) (z : State) (answer : Result Rebuilding Refusal)
    (R : Run sheet (before ++ rebuild answer ∷ rest) z) where
  -- a rebuild is accepted exactly when a disk is lost
  pub rebuild_accepted_lost : (verdict answer ≡ Ok tt) ↔ ((d : ℕ) × (is_lost (shelf_after sheet before) d ≡ true))
  rebuild_accepted_lost =
      let m = moment before R in
      let x = m.here in
      let is = answer_verdict _ _ m.step.0.answers in
      let w = rebuild_accepted x.shelf x.image in
      let now = run_loss sheet before x m.run in (
        λ e. some_lost (lost_after before) (ap is_whole (sym now) ∙ (w.0 (sym is ∙ e)).lost),
        λ p. is ∙ w.1 (record { stored = (run_remembers sheet before x m.run).stored; lost = ap is_whole now ∙ lost_unwhole (lost_after before) p.0 p.1 }),
      )

  module _ (accepted : verdict answer ≡ Ok tt) (d : ℕ) (lost : is_lost (shelf_after sheet before) d ≡ true) where
    count_is : (e : ℕ) → e < 64
        → get_or (counts_of answer) e 0 ≡ cond (ltb e (shelf_from sheet).v && not (eqb e d)) ((shelf_from sheet).T * (shelf_from sheet).k * (shelf_from sheet).lambda) 0
    count_is e he =
        let m = moment before R in
        let x = m.here in
        rw (run_shelf sheet before x m.run) at
        (rebuild_counts_are x.shelf x.image answer m.next.image m.step.0 accepted d (ap (λ (h : Shelf). is_lost h d) (run_shelf sheet before x m.run) ∙ lost) e he)

    -- "Each rebuild reads from every other disk": lambda units for each of the T·k copies
    pub rebuild_reads : (e : ℕ) → e < (shelf_from sheet).v → e ≢ d → get_or (counts_of answer) e 0 ≡ (shelf_from sheet).T * (shelf_from sheet).k * (shelf_from sheet).lambda
    rebuild_reads e he ne =
        let most : (shelf_from sheet).v ≤ 64 = (shelf_parts (shelf_from sheet) (opened_is_shelf sheet R.starts.accepts)).limits.v_most in
        rw (lt-ltb e _ he, ne_eqb e d ne) at (count_is e (omega arith))

    -- and none from the lost disk, or where there is no disk
    pub rebuild_reads_else : (e : ℕ) → e < 64 → (e ≡ d) ⊎ ((shelf_from sheet).v ≤ e) → get_or (counts_of answer) e 0 ≡ 0
    rebuild_reads_else e l (inl p) = rw (eq-eqb e d p, and-false (ltb e (shelf_from sheet).v)) at (count_is e l)
    rebuild_reads_else e l (inr p) = rw (le-ltb e _ p) at (count_is e l)

    -- "from every other disk exactly lambda units for each copy of the design": copy c of full table t
    pub rebuild_takes : (e t c : ℕ) → e < (shelf_from sheet).v → e ≢ d → t < (shelf_from sheet).T → c < (shelf_from sheet).k
        → count (taken_for (shelf_from sheet) t c d e) (units (shelf_from sheet)) ≡ (shelf_from sheet).lambda
    rebuild_takes e t c he ne ht hc =
        let m = moment before R in
        let x = m.here in
        let is = run_shelf sheet before x m.run in
        let below : d < x.shelf.v = lost_below x.shelf (run_remembers sheet before x m.run).stored.shelf d (ap (λ (h : Shelf). is_lost h d) (run_shelf sheet before x m.run) ∙ lost) in
        copy_takes (shelf_from sheet) (opened_is_shelf sheet R.starts.accepts) t c d e ht hc he (rw is at below) ne

-- ---- what is right

-- with no disk lost no stripe is wrong
pub none_wrong : (sheet : List ℕ) (events : List Event) (z : State) → Run sheet events z → lost_after events ≡ no_loss
    → (s : ℕ) → s < stripes (layout_in (shelf_from sheet)) → wrong z.shelf z.image s ≡ false
none_wrong sheet events z R none s hs =
    let K = run_remembers sheet events z R in
    let l : s < stripes (layout_in z.shelf) = rw (run_shelf sheet events z R) hs in
    (right_exactly z.shelf K.stored.shelf z.image K.stored.size s l).1
    (whole_right z.shelf z.image _ K ((whole_exactly z.shelf.loss).1 (run_loss sheet events z R ∙ none)) s l)

-- so it is after a rebuild, which leaves no disk lost
pub rebuild_right : (sheet : List ℕ) (before : List Event) (z : State) (answer : Result Rebuilding Refusal) → Run sheet (before ++ rebuild answer ∷ []) z → verdict answer ≡ Ok tt
    → (z.shelf.loss ≡ no_loss) × ((s : ℕ) → s < stripes (layout_in (shelf_from sheet)) → wrong z.shelf z.image s ≡ false)
unfolding loss_by
rebuild_right sheet before z answer R accepted =
    let events : List Event = before ++ rebuild answer ∷ [] in
    let none : lost_after events ≡ no_loss = loss_append no_loss before (rebuild answer) ∙ by_accepted no_loss (lost_after before) accepted in
    (run_loss sheet events z R ∙ none, none_wrong sheet events z R none)

-- a scrub answers 0 whenever no disk is lost
pub scrub_finds_none : (sheet : List ℕ) (before rest : List Event) (z : State) (answer : Result ℕ Refusal) → Run sheet (before ++ look (scrub answer) ∷ rest) z
    → lost_after before ≡ no_loss → (verdict answer ≡ Ok tt) × (wrong_of answer ≡ 0)
unfolding scrubbed
scrub_finds_none sheet before rest z answer R none =
    let m = moment before R in
    let x = m.here in
    let K = run_remembers sheet before x m.run in
    let v = (whole_accepted x.shelf x.image).1 (record { stored = K.stored; whole = (whole_exactly x.shelf.loss).1 (run_loss sheet before x m.run ∙ none) }) in
    (answer_verdict (first_broken (whole_rules x.shelf (length x.image))) _ m.step.0 ∙ v, ap wrong_of m.step.0 ∙ scrub_remembers x.shelf x.image _ K v)
