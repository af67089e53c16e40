-- `design::planes::all_below` meets its contract. Assumes nothing.
use native.Mathlib.Omega.{arith}
use borrow.Author.Rules.{rules}
use borrow.Author.Tests.{tests}
use Rattle.std.proofs.lemmas.Iterator.{cases_from_all, YieldsList-from_slice}
use Rattle.std.proofs.lemmas.Iterator.Consumers.{YieldsList-from_enumerate}
use Rattle.design.proofs.Compare.{Agrees, row_agrees}
use Rattle.design.proofs.planes.all_below.Goals as goal

pub returns : goal.returns
returns c =
    let a = c.args in
    row_agrees a.row.now a.d a.value c.all.result c.requires.0 c.requires.1 (omega arith)
    (cases_from_all _ _ _ (Agrees a.d a.value) (λ p. Agrees a.d a.value p → ⊥) c.all.ensures.ran
    (YieldsList-from_enumerate (YieldsList-from_slice a.row.now (cc)) (cc)) (λ x q k. search (rules, tests)) (λ x q k. search (rules, tests)))
