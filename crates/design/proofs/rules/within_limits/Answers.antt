-- `design::rules::within_limits` meets its contract. Assumes nothing.
use mathlib.Core.Path.{sym, ◌∙◌}
use native.Mathlib.Omega.{arith}
use Rattle.std.proofs.lemmas.Grind.{common_steps}
use Rattle.design.specs.Sheet.{within_limits}
use Rattle.design.proofs.Counting.{fails}
use Rattle.design.proofs.Tests.{limits}
use Rattle.design.proofs.rules.within_limits.Goals as goal
use Rattle.design.proofs.rules.within_limits.Goals.{then-contains, else-contains, then-contains-2, else-contains-2, then-contains-3, else-contains-3, then-b-k-le-PLACES_MOST, else-b-k-le-PLACES_MOST}

pub returns-then-contains-4 : goal.returns-then-contains-4
unfolding within_limits
returns-then-contains-4 c = grind (arith, common_steps)

pub returns-else-contains-4 : goal.returns-else-contains-4
returns-else-contains-4 c =
    let a = c.args in
    c.if-contains-4.false ∙ sym (fails _ (λ e.
    let l = (limits a.v a.k a.b a.t a.u).0 e in
    elim c.if-b-k-le-PLACES_MOST.branch [
      | then-b-k-le-PLACES_MOST w ↦ grind (arith, common_steps)
      | else-b-k-le-PLACES_MOST w ↦ elim c.if-contains-3.branch [
        | then-contains-3 w ↦ grind (arith, common_steps)
        | else-contains-3 w ↦ elim c.if-contains-2.branch [
          | then-contains-2 w ↦ grind (arith, common_steps)
          | else-contains-2 w ↦ elim c.if-contains.branch [
            | then-contains w ↦ grind (arith, common_steps)
            | else-contains w ↦ grind (arith, common_steps)
          ]
        ]
      ]
    ]))
