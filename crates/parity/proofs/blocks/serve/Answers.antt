-- `parity::blocks::serve` meets its contract. Assumes nothing.
use borrow.Author.Tests.{lt-ltb, le-ltb}
use Rattle.parity.specs.inner.Blocks.{by_blocks}
use Rattle.parity.proofs.blocks.serve.Goals as goal

pub returns-then-k-gt3 : goal.returns-then-k-gt3
unfolding by_blocks
returns-then-k-gt3 c = rw (lt-ltb 3 c.args.k c.if-k-gt3.true)

pub returns-else-k-gt3 : goal.returns-else-k-gt3
unfolding by_blocks
returns-else-k-gt3 c = rw (le-ltb 3 c.args.k c.if-k-gt3.false)
