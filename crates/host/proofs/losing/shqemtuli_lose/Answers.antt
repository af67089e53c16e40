-- `host::shqemtuli_lose` meets its contract: bytes that held a shelf are those of a shelf value. Assumes nothing.
use mathlib.Core.Path.{sym, ◌∙◌}
use Rattle.host.proofs.Holding.{value-length}
use Rattle.host.proofs.Changing.{losing-shelf}
use Rattle.host.proofs.losing.shqemtuli_lose.Goals as goal

pub put-requires : goal.put-requires
put-requires c =
    value-length c.args.shelf.now (rw (← c.shelf.ensures) (losing-shelf _ _ (sym c.lose.ensures ∙ c.in-Ok.is)))
