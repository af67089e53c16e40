-- `parity::storing::renew` meets its contract. Assumes nothing.
use mathlib.Core.Path.{ap, ◌∙◌}
use mathlib.Core.List.{List}
use Prim.Native.Nat.{ℕ}
use lib.ListN.{length}
use Rattle.parity.specs.inner.Stores.{put_unit}
use Rattle.parity.proofs.storing.renew.Goals as goal

pub mix_both-requires : goal.mix_both-requires
mix_both-requires c = (c.requires.1, c.requires.0)

pub returns : goal.returns
returns c =
    c.store.ensures
    ∙ ap (λ (l : List ℕ). put_unit (length c.args.unit.now) l c.args.n c.args.unit.now) c.mix_both.ensures
