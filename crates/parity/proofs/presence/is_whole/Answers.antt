-- `parity::presence::is_whole` meets its contract: the loss is one of two. Assumes nothing.
use mathlib.Core.Path.{◌≡◌, refl}
use mathlib.Core.Bool.{Bool, true, false, not}
use Prim.Native.Nat.{ℕ}
use Rattle.std.specs.Prelude.{Option, Some, None}
use Rattle.std.specs.Option.{is_some}
use Rattle.design.specs.Loss.{is_whole}
use Rattle.parity.proofs.presence.is_whole.Goals as goal

none_whole : (x : Option ℕ) (b : Bool) → is_some x ≡ not b → b ≡ is_whole (record { lost = x })
unfolding is_whole
none_whole None true e = refl
none_whole None false e = absurd cc
none_whole (Some d) true e = absurd cc
none_whole (Some d) false e = refl

pub returns : goal.returns
returns c = none_whole _ _ c.is_none.ensures
