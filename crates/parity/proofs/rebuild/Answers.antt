-- `parity::rebuild` meets its contract: the answer and the image are as the verdict says. Assumes nothing.
use mathlib.Core.Path.{◌≡◌, sym, ap, ◌∙◌}
use mathlib.Core.List.{List}
use Prim.Native.Nat.{ℕ}
use native.Mathlib.Omega.{arith}
use Rattle.design.specs.declared.Loss.{Loss}
use Rattle.design.specs.declared.Shelf.{Shelf}
use Rattle.design.specs.Loss.{with_loss}
use Rattle.parity.specs.declared.Rebuilding.{Rebuilding}
use Rattle.parity.specs.Calls.{restored}
use Rattle.parity.proofs.Accepted.{LostCall, rebuild_accepted}
use Rattle.design.proofs.Refused.{handed_err}
use Rattle.parity.proofs.By.{refused_answers, accepted_answers}
use Rattle.parity.proofs.rebuild.Goals as goal
use Rattle.parity.proofs.rebuild.Goals.{In_ok-checked}

-- what an accepted call has
accepted : (c : In_ok-checked) → LostCall c.args.shelf c.args.image.now
accepted c = (rebuild_accepted _ _).0 (sym c.in_ok-checked.ensures.judged)

pub returns-in_err-checked : goal.returns-in_err-checked
returns-in_err-checked c = refused_answers _ (sym c.in_err-checked.ensures.judged) (handed_err _ c.from_residual.ensures)

pub restore_range-requires : goal.restore_range-requires
restore_range-requires c =
    let w = accepted (goal.at.restore_range-requires c).In_ok-checked in
    rw c.in_ok-checked.ensures.passed (record { size = w.stored.size; loss_value = w.lost; from_le_to = (omega arith, omega (arith, rw c.in_ok-checked.ensures.passed at c.offsets.ensures)) })

pub counts-counts-requires : goal.counts-counts-requires
counts-counts-requires c = rw c.in_ok-checked.ensures.passed (accepted (goal.at.counts-counts-requires c).In_ok-checked).lost

same_answer : (h : Shelf) {l l' : Loss} {counts counts' : List ℕ} → l ≡ l' → counts ≡ counts' → ◌≡◌ {A = Rebuilding} (record { shelf = with_loss h l; counts = counts }) (record { shelf = with_loss h l'; counts = counts' })
same_answer h p q = rw (p, q)

pub returns : goal.returns
returns c =
    accepted_answers _ (sym c.in_ok-checked.ensures.judged) (same_answer c.args.shelf c.none.ensures (rw c.in_ok-checked.ensures.passed at c.counts-counts.ensures))
    (rw c.in_ok-checked.ensures.passed at (c.restore_range.ensures ∙ ap (restored c.in_ok-checked.checked.shelf.now c.args.image.now 0) c.offsets.ensures))
