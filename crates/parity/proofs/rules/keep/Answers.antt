-- `parity::rules::keep` meets its contract. Assumes nothing.
use Rattle.design.specs.Refusals.{first_broken}
use Rattle.parity.proofs.rules.keep.Goals as goal

pub returns-then-kept : goal.returns-then-kept
unfolding first_broken
returns-then-kept c = rw c.if-kept.true

pub returns-else-kept : goal.returns-else-kept
unfolding first_broken
returns-else-kept c = rw c.if-kept.false
