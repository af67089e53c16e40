-- `placement::run` meets its contract. The loop's invariant: the first i records are the places from the first address on. Assumes nothing.
use mathlib.Core.Path.{◌≡◌, sym, ap, ◌∙◌}
use Prim.Native.Nat.{ℕ}
use native.Mathlib.Numerals.{add-one}
use native.Mathlib.Omega.{arith}
use lib.ListN.{length}
use Rattle.std.specs.Prelude.{Ok}
use Rattle.design.specs.Refusals.{first_broken}
use Rattle.design.proofs.Refused.{handed_err}
use Rattle.placement.specs.Layout.{layout_in}
use Rattle.placement.specs.Placed.{run_rules, list_by}
use Rattle.placement.proofs.Bounds.{bounds}
use Rattle.placement.proofs.Lists.{filled, filled_more, filled-all}
use Rattle.placement.proofs.Running.{Runs, accepted_runs}
use Rattle.placement.proofs.run.Goals as goal
use Rattle.placement.proofs.run.Goals.{In_ok-run_verdict}

pub returns-in_err-run_verdict : goal.returns-in_err-run_verdict
unfolding list_by
returns-in_err-run_verdict c =
    let args = c.args in
    let refused = sym c.run_verdict.ensures ∙ c.in_err-run_verdict.was in
    record { answers = handed_err _ c.from_residual.ensures ∙ sym refused; leaves = rw refused }

accepted : (c : In_ok-run_verdict) → first_broken (run_rules c.args.shelf c.args.first (length c.args.list.now)) ≡ Ok tt
accepted c = sym c.run_verdict.ensures ∙ c.in_ok-run_verdict.was

-- past the verdict the run is accepted
runs : (c : In_ok-run_verdict) → Runs c.args.shelf c.args.first (length c.args.list.now)
runs c = accepted_runs _ _ _ (accepted c)

pub overflow_add-first : goal.overflow_add-first
overflow_add-first c =
    let w = runs (goal.at.overflow_add-first c).In_ok-run_verdict in
    omega (arith, w.range, (bounds c.args.shelf w.shelf).addresses)

pub spot-requires : goal.spot-requires
spot-requires c = let w = runs (goal.at.spot-requires c).In_ok-run_verdict in omega (arith, w.range)

pub invariant_of-checked : goal.invariant_of-checked
invariant_of-checked c = record { passed = (runs (goal.at.invariant_of-checked c).In_ok-run_verdict).shelf }

pub loop-i-preserved : goal.loop-i-preserved
loop-i-preserved c =
    rw (c.loop-i.invariant, c.spot.ensures, add-one) (filled_more (layout_in c.args.shelf) c.args.first c.loop-i.i c.args.list.now (omega arith))

pub returns : goal.returns
unfolding list_by
returns c =
    let args = c.args in
    let all : c.loop-i.i ≡ length args.list.now = omega arith in
    record {
      answers = sym (accepted (goal.at.returns c).In_ok-run_verdict);
      leaves =
          rw (accepted (goal.at.returns c).In_ok-run_verdict)
          (c.loop-i.invariant
          ∙ ap (λ (n : ℕ). filled (layout_in args.shelf) args.first n args.list.now) all
          ∙ filled-all (layout_in args.shelf) args.first args.list.now);
    }
