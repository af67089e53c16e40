-- `parity::restoring::index_of` meets its contract. Assumes nothing.
use borrow.Author.Tests.{eq-eqb, ne_eqb}
use Rattle.parity.proofs.restoring.index_of.Goals as goal

pub returns-then-position-parity : goal.returns-then-position-parity
returns-then-position-parity c = rw (eq-eqb _ _ c.if-position-parity.true)

pub returns : goal.returns
returns c = rw (ne_eqb _ _ c.if-position-parity.false) c.index_of.ensures
