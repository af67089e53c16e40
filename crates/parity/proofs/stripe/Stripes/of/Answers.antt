-- `parity::stripe::Stripes::of` meets its contract: the entries of the table that are ranked are within it, and each is a disk.
-- Assumes nothing.
use Rattle.placement.proofs.PerEntry.{ranks_at}
use Rattle.parity.proofs.Ready.{entries_fit}
use Rattle.parity.proofs.stripe.Stripes.of.Goals as goal

pub invariant_of-result : goal.invariant_of-result
invariant_of-result c =
    record {
      ranked = ranks_at _ _ c.ranks.ensures (entries_fit _ c.args.checked.passed);
      deep = c.offsets.ensures;
      sized = c.unit_size.ensures;
    }
