-- `host::shqemtuli_run` meets its contract: an accepted run's addresses are the shelf's. Assumes nothing.
use mathlib.Core.Path.{sym, ◌∙◌}
use Rattle.placement.proofs.Running.{Runs, accepted_runs}
use Prim.Native.Nat.{◌/◌}
use lib.ListN.{length}
use Rattle.host.proofs.places.shqemtuli_run.Goals as goal
use Rattle.host.proofs.places.shqemtuli_run.Goals.{In-Ok}

runs : (c : In-Ok) → Runs c.shelf-taken.result c.args.first (length c.args.out.now / 16)
runs c = accepted_runs _ _ _ (sym c.run_verdict.ensures ∙ c.in-Ok.is)

pub invariant_of-put_run : goal.invariant_of-put_run
invariant_of-put_run c = record { passed = (runs (goal.at.invariant_of-put_run c).In-Ok).shelf }

pub put_run-requires : goal.put_run-requires
put_run-requires c = (c.if-out-ne0.false, (runs (goal.at.put_run-requires c).In-Ok).range)
