-- `design::rules::none_twice` meets its contract. Assumes nothing.
use mathlib.Core.Path.{◌≡◌}
use borrow.Author.Rules.{rules}
use borrow.Author.Tests.{tests}
use lib.ListN.{length}
use Rattle.std.specs.Prelude.{None}
use Rattle.std.proofs.lemmas.Iterator.{cases_from_all}
use Rattle.design.specs.Tuples.{repeated}
use Rattle.design.specs.inner.Tally.{disk_at}
use Rattle.design.proofs.Chunks.{chunks_lent}
use Rattle.design.proofs.Parts.{none_twice_chunks}
use Rattle.design.proofs.rules.none_twice.Goals as goal

pub returns : goal.returns
returns c =
    let a = c.args in
    none_twice_chunks a.k a.disks.now c.all.result
    (cases_from_all _ _ _ (λ x. repeated (disk_at x) (length x) ≡ None) (λ x. repeated (disk_at x) (length x) ≡ None → ⊥) c.all.ensures.ran
    (chunks_lent a.k a.disks.now c.chunks_exact.result c.requires (cc) (cc)) (λ x q k. search (rules, tests)) (λ x q k. search (rules, tests)))
