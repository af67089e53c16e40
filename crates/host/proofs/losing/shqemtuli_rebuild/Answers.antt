-- `host::shqemtuli_rebuild` meets its contract: there are 64 counts, and bytes that held a shelf are those of a shelf value. Assumes
-- nothing.
use mathlib.Core.Path.{ap}
use native.Mathlib.Omega.{arith}
use lib.ListN.{length}
use Rattle.host.proofs.Holding.{value-length}
use Rattle.host.proofs.Changing.{rebuilding-shelf, counts_length}
use Rattle.host.proofs.losing.shqemtuli_rebuild.Goals as goal

pub put_all-requires : goal.put_all-requires
put_all-requires c =
    omega (arith, c.if-counts-ne-COUNTS_SIZE.false, counts_length _ _ _ c.rebuild-answer.ensures, ap length c.counts_of.ensures)

pub put-requires : goal.put-requires
put-requires c =
    value-length c.args.shelf.now (rw (← c.shelf.ensures) (rebuilding-shelf _ _ c.rebuild-answer.ensures c.in-Ok.is))
