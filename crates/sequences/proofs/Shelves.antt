-- The shelf after a sequence is the one that was opened, but for the disk that the events leave lost. Assumes nothing.
use mathlib.Core.Path.{◌≡◌, refl, ap, ◌∙◌}
use mathlib.Core.List.{List, [], ◌∷◌, ◌++◌}
use Prim.Native.Nat.{ℕ}
use Rattle.std.specs.Prelude.{Ok, Err}
use Rattle.parity.specs.declared.Rebuilding.{Rebuilding}
use Rattle.design.specs.declared.Loss.{Loss}
use Rattle.design.specs.declared.Shelf.{Shelf}
use Rattle.design.specs.Refusals.{Verdict, verdict, answered}
use Rattle.design.specs.Loss.{no_loss, disk_loss, with_loss}
use Rattle.design.specs.Sheet.{shelf_of, opened}
use Rattle.design.proofs.Refused.{accepted_shelf}
use Rattle.parity.specs.Calls.{by, lost, losing_of, rebuilt_shelf}
use Rattle.sequences.specs.Sequence.{Event, write, write_stripe, lose, rebuild, look, disturb, State, Step, Steps, Run, shelf_from}
use Rattle.sequences.specs.Lost.{loss_by, loss_from, lost_after, shelf_after}
use Rattle.sequences.specs.Written.{written_by}

-- the shelf after a call that changes its loss, by the call's verdict
module _ (h g : Shelf) (loss loss' : Loss) (e : g ≡ with_loss h loss) where
  after_lose : (v : Verdict) → losing_of g (answered v (with_loss g loss')) ≡ with_loss h (by (verdict (answered v (with_loss g loss'))) loss' loss)
  unfolding by answered
  after_lose (Ok u) = ap (λ (g : Shelf). with_loss g loss') e
  after_lose (Err r) = e

  after_rebuild : (v : Verdict) (x : Rebuilding) → x.shelf ≡ with_loss g loss' → rebuilt_shelf g (answered v x) ≡ with_loss h (by (verdict (answered v x)) loss' loss)
  unfolding by answered
  after_rebuild (Ok u) x is = is ∙ ap (λ (g : Shelf). with_loss g loss') e
  after_rebuild (Err r) x is = e

pub shelf_step : (h : Shelf) (loss : Loss) (x y : State) (e : Event) → Step x e y → x.shelf ≡ with_loss h loss → y.shelf ≡ with_loss h (loss_by e loss)
unfolding lost loss_by
shelf_step h loss x y (write a unit answer) (p, e) S = e ∙ S
shelf_step h loss x y (write_stripe s buffer answer) (p, e) S = e ∙ S
shelf_step h loss x y (lose d answer) (p, e, i) S =
    e ∙ rw p (after_lose h x.shelf loss (disk_loss d) S _)
shelf_step h loss x y (rebuild answer) (p, e) S =
    e ∙ rw p.answers (after_rebuild h x.shelf loss no_loss S _ _ refl)
shelf_step h loss x y (look call) (p, e) S = ap (λ (x : State). x.shelf) e ∙ S
shelf_step h loss x y disturb (p, e) S = e ∙ S

shelf_steps : (h : Shelf) (loss : Loss) (x z : State) (events : List Event) → Steps x events z → x.shelf ≡ with_loss h loss → z.shelf ≡ with_loss h (loss_from loss events)
unfolding Steps loss_from
shelf_steps h loss x z [] e S = ap (λ (x : State). x.shelf) e ∙ S
shelf_steps h loss x z (e ∷ events) (y, (s, more)) S = shelf_steps h (loss_by e loss) y z events more (shelf_step h loss x y e s S)

-- after one event more
pub loss_append : (loss : Loss) (events : List Event) (e : Event) → loss_from loss (events ++ e ∷ []) ≡ loss_by e (loss_from loss events)
unfolding loss_from
loss_append loss [] e = refl
loss_append loss (x ∷ events) e = loss_append (loss_by x loss) events e

-- an opened shelf has no disk lost
pub opened-whole : (sheet : List ℕ) → verdict (opened sheet) ≡ Ok tt → shelf_from sheet ≡ with_loss (shelf_from sheet) no_loss
unfolding shelf_of
opened-whole sheet e = rw (accepted_shelf sheet e)

pub run_shelf : (sheet : List ℕ) (events : List Event) (z : State) → Run sheet events z → z.shelf ≡ shelf_after sheet events
run_shelf sheet events z R =
    shelf_steps (shelf_from sheet) no_loss R.start z events R.steps (R.starts.opens ∙ opened-whole sheet R.starts.accepts)

pub run_loss : (sheet : List ℕ) (events : List Event) (z : State) → Run sheet events z → z.shelf.loss ≡ lost_after events
run_loss sheet events z R = ap (λ (h : Shelf). h.loss) (run_shelf sheet events z R)

-- the lost disk does not matter for what is written
pub written_apart : (h : Shelf) (loss : Loss) (e : Event) (a : ℕ) → written_by (with_loss h loss) e a ≡ written_by h e a
unfolding written_by
written_apart h loss (write a' unit answer) a = refl
written_apart h loss (write_stripe s buffer answer) a = refl
written_apart h loss (lose d answer) a = refl
written_apart h loss (rebuild answer) a = refl
written_apart h loss (look call) a = refl
written_apart h loss disturb a = refl
