-- `parity::presence::lost_disk` meets its contract: a disk is lost, since the loss is not that of none. Assumes nothing.
use mathlib.Core.Path.{◌≡◌, refl}
use mathlib.Core.Bool.{false, true≢false}
use Prim.Native.Nat.{ℕ}
use borrow.Author.Tests.{eq-eqb}
use Rattle.std.specs.Prelude.{Option, Some, None, IsSome}
use Rattle.design.specs.Loss.{is_whole, lost_in}
use Rattle.parity.proofs.presence.lost_disk.Goals as goal

some : (x : Option ℕ) → is_whole (record { lost = x }) ≡ false → IsSome x
unfolding is_whole
some None e = absurd (true≢false e)
some (Some d) e = refl

pub unwrap-requires : goal.unwrap-requires
unwrap-requires c = some _ c.requires

pub returns : goal.returns
unfolding lost_in
returns c = rw (c.unwrap.ensures, lost_in) (eq-eqb _ _ refl)
