-- `parity::bytes::is_zero` meets its contract: all bytes joined are zero exactly when each is. Assumes nothing.
use mathlib.Core.Path.{◌≡◌, ap, ◌∙◌}
use lib.Bits.{bit_or}
use lib.Dec.{eqb}
use Prim.Native.Nat.{ℕ}
use borrow.Author.Rules.{rules}
use Rattle.std.specs.List.{fold}
use Rattle.parity.proofs.Writing.{zero_joined}
use Rattle.parity.proofs.bytes.is_zero.Goals as goal
use Rattle.parity.proofs.bytes.is_zero.Goals.{After-fold}

joined : (c : After-fold) → c.fold.result ≡ fold bit_or 0 c.args.bytes.now
joined c = search rules

pub returns : goal.returns
returns c = ap (λ (x : ℕ). eqb x 0) (joined c) ∙ zero_joined 0 c.args.bytes.now
