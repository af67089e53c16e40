-- "A second loss before the rebuild is refused", and changes nothing. Assumes nothing.
use mathlib.Core.Path.{◌≡◌, sym, ap, ◌∙◌}
use mathlib.Core.Logic.{◌↔◌}
use mathlib.Core.Bool.{true, false, not, cond, true≢false}
use mathlib.Core.List.{List, [], ◌∷◌, ◌++◌}
use Prim.Native.Nat.{ℕ, ◌<◌}
use lib.Dec.{ltb}
use borrow.Author.Tests.{not-true}
use Rattle.std.specs.Prelude.{Ok, Err, Result}
use Rattle.design.specs.declared.Refusal.{Refusal}
use Rattle.design.specs.declared.Refusal.TheVariants.{OutOfRange, SomeLost}
use Rattle.design.specs.declared.Shelf.{Shelf}
use Rattle.design.specs.Refusals.{number, first_broken, verdict}
use Rattle.design.specs.Loss.{no_loss, disk_loss, is_whole}
use Rattle.design.specs.Shelf.{is_shelf}
use Rattle.design.proofs.Counting.{both}
use Rattle.design.proofs.Losses.{disk-lost, whole_exactly, lost_unwhole}
use Rattle.parity.specs.Calls.{lose_rules, lost, losing_of}
use Rattle.parity.proofs.By.{by_accepted, lost_verdict}
use Rattle.parity.proofs.Accepted.{lose_accepted}
use Rattle.parity.proofs.Cases.{cases}
use Rattle.parity.proofs.Refused.{lose_refused, rebuild_refused}
use Rattle.sequences.specs.Sequence.{Event, write, write_stripe, lose, rebuild, look, disturb, State, Step, Steps, Run, shelf_from}
use Rattle.sequences.specs.Lost.{loss_by, lost_after, rebuilds, no_rebuild}
use Rattle.sequences.proofs.Verdicts.{by-verdict}
use Rattle.sequences.proofs.Moments.{moment, run_append}
use Rattle.sequences.proofs.Shelves.{loss_append, run_shelf, run_loss}
use Rattle.sequences.proofs.Remembers.{run_remembers}

-- 12 where the shelf has no such disk, else 14
second : (h : Shelf) (d : ℕ) → is_shelf h ≡ true → is_whole h.loss ≡ false → first_broken (lose_rules h d) ≡ Err (cond (ltb d h.v) SomeLost OutOfRange)
unfolding first_broken lose_rules
second h d ok loss = rw (ok, loss) (cases (ltb d h.v) (λ t. rw t) (λ t. rw t))

-- after events that leave a disk lost, declaring any disk lost is refused
lose_while_lost : (sheet : List ℕ) (before : List Event) (x y : State) (d : ℕ) (answer : Result Shelf Refusal) → Run sheet before x → is_whole (lost_after before) ≡ false → Step x (lose d answer) y
    → (r : Refusal) × (verdict answer ≡ Err r) × (number r ≡ cond (ltb d (shelf_from sheet).v) 14 12) × (y.shelf ≡ x.shelf) × (y.image ≡ x.image)
unfolding lost number
lose_while_lost sheet before x y d answer R now (p, s, i) =
    let r : Refusal = cond (ltb d x.shelf.v) SomeLost OutOfRange in
    let v : verdict (lost x.shelf d) ≡ Err r = lost_verdict x.shelf d ∙ second x.shelf d (run_remembers sheet before x R).stored.shelf (ap is_whole (run_loss sheet before x R) ∙ now) in
    let same = run_shelf sheet before x R in (
      r,
      ap verdict p ∙ v,
      rw same (cases (ltb d (shelf_from sheet).v) (λ t. rw t) (λ t. rw t)),
      s ∙ ap (losing_of x.shelf) p ∙ lose_refused x.shelf d r v,
      i,
    )

-- which losses are accepted
pub lose_accepted_whole : (sheet : List ℕ) (before rest : List Event) (z : State) (d : ℕ) (answer : Result Shelf Refusal) → Run sheet (before ++ lose d answer ∷ rest) z
    → (verdict answer ≡ Ok tt) ↔ ((d < (shelf_from sheet).v) × (lost_after before ≡ no_loss))
unfolding lost
lose_accepted_whole sheet before rest z d answer R =
    let m = moment before R in
    let x = m.here in
    let is = ap verdict m.step.0 ∙ lost_verdict x.shelf d in
    let w = lose_accepted x.shelf d in
    let same = run_shelf sheet before x m.run in
    let now = run_loss sheet before x m.run in (
      λ e. let c = w.0 (sym is ∙ e) in (rw same at c.disk, sym now ∙ (whole_exactly x.shelf.loss).0 c.whole),
      λ p. is ∙ w.1 (record { shelf = (run_remembers sheet before x m.run).stored.shelf; disk = rw same p.0; whole = (whole_exactly x.shelf.loss).1 (now ∙ p.1) }),
    )

-- ---- until the rebuild

-- while a disk is lost no other event changes the shelf
shelf_stays : (x y : State) (e : Event) → is_shelf x.shelf ≡ true → is_whole x.shelf.loss ≡ false → rebuilds e ≡ false → Step x e y → y.shelf ≡ x.shelf
unfolding lost rebuilds
shelf_stays x y (write a unit answer) ok loss n (p, s) = s
shelf_stays x y (write_stripe t buffer answer) ok loss n (p, s) = s
shelf_stays x y (lose e answer) ok loss n (p, s, i) = s ∙ ap (losing_of x.shelf) p ∙ lose_refused x.shelf e _ (lost_verdict x.shelf e ∙ second x.shelf e ok loss)
shelf_stays x y (rebuild answer) ok loss n (p, s) = by-verdict (verdict answer)
    (λ v. absurd (true≢false (sym (by_accepted true false v) ∙ n)))
    (λ r v. s ∙ (rebuild_refused x.shelf x.image r answer y.image p v).1)
shelf_stays x y (look call) ok loss n (p, e) = ap (λ (x : State). x.shelf) e
shelf_stays x y disturb ok loss n (p, s) = s

stays_lost : (x z : State) (events : List Event) → is_shelf x.shelf ≡ true → is_whole x.shelf.loss ≡ false → no_rebuild events ≡ true → Steps x events z
    → is_whole z.shelf.loss ≡ false
unfolding Steps no_rebuild
stays_lost x z [] ok loss n e = ap (λ (x : State). is_whole x.shelf.loss) e ∙ loss
stays_lost x z (e ∷ events) ok loss n (y, (s, more)) =
    let p = both (not (rebuilds e)) (no_rebuild events) n in
    let same = shelf_stays x y e ok loss (not-true _ p.0) s in
    stays_lost y z events (rw same ok) (ap (λ (h : Shelf). is_whole h.loss) same ∙ loss) p.1 more

-- "a second loss before the rebuild is refused": after an accepted loss and other events, none of them an accepted rebuild,
-- declaring any disk lost is refused, with 14, or with 12 if the shelf has no such disk, and changes nothing
pub second_loss : (sheet : List ℕ) (before between : List Event) (x y : State) (d e : ℕ) (first second : Result Shelf Refusal)
    → Run sheet (before ++ lose d first ∷ between) x → verdict first ≡ Ok tt → no_rebuild between ≡ true → Step x (lose e second) y
    → (r : Refusal) × (verdict second ≡ Err r) × (number r ≡ cond (ltb e (shelf_from sheet).v) 14 12) × (y.shelf ≡ x.shelf) × (y.image ≡ x.image)
unfolding loss_by
second_loss sheet before between x y d e first second R accepted none s =
    let m = moment before R in
    let events : List Event = before ++ lose d first ∷ [] in
    let L = run_append before (lose d first) m.run m.step in
    let lost : lost_after events ≡ disk_loss d = loss_append no_loss before (lose d first) ∙ by_accepted (disk_loss d) (lost_after before) accepted in
    let now : is_whole m.next.shelf.loss ≡ false = ap is_whole (run_loss sheet events m.next L ∙ lost) ∙ lost_unwhole (disk_loss d) d (disk-lost d) in
    let still : is_whole x.shelf.loss ≡ false = stays_lost m.next x between (run_remembers sheet events m.next L).stored.shelf now none m.more in
    lose_while_lost sheet (before ++ lose d first ∷ between) x y e second R (ap is_whole (sym (run_loss sheet (before ++ lose d first ∷ between) x R)) ∙ still) s
