-- `design::tally::disks_even` meets its contract. Assumes nothing.
use mathlib.Core.Path.{◌≡◌, refl}
use mathlib.Core.Bool.{true, false}
use Prim.Native.Nat.{ℕ}
use native.Mathlib.Omega.{arith}
use borrow.Author.Rules.{rules}
use borrow.Author.Tests.{tests}
use lib.Dec.{eqb}
use Rattle.std.proofs.lemmas.Iterator.{cases_from_all, YieldsList-from_range}
use Rattle.design.specs.inner.Planes.{row_of, counted}
use Rattle.design.proofs.Counting.{every_ranged}
use Rattle.design.proofs.tally.disks_even.Goals as goal

pub returns : goal.returns
returns c =
    let even = λ (d : ℕ). eqb (counted (row_of c.args.counts.now d) d) c.args.r in
    every_ranged _ even _
    (cases_from_all _ _ _ (λ d. even d ≡ true) (λ d. even d ≡ false) c.all.ensures.ran
    (YieldsList-from_range 0 c.args.v c.args.v refl (omega arith)) (λ x q k. search (rules, tests)) (λ x q k. search (rules, tests)))
