-- `layout::pen::places` meets its contract. Assumes nothing.
use Rattle.layout.proofs.Decimals.{digits_count}
use Rattle.layout.proofs.pen.places.Goals as goal

pub returns : goal.returns
returns c = let e = c.ilog10.ensures in digits_count c.ilog10.result c.args.n (rw c.max.ensures at e.power_le) (rw c.max.ensures at e.next_power_gt)
