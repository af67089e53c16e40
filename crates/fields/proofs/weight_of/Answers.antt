-- `weight_of` meets its contract: 128 loses one power of two for each place. Assumes nothing.
use mathlib.Core.Path.{◌≡◌, ap, ◌∙◌}
use Prim.Native.Nat.{ℕ, ◌+◌, ◌-◌, ◌/◌, ◌^◌}
use native.Mathlib.Omega.{arith}
use lib.Pow.{pow-add, shl-shr}
use Rattle.fields.proofs.weight_of.Goals as goal

pub returns : goal.returns
returns c =
    let place = c.args.place in
    let all : 7 ≡ 7 - place + place = omega arith in
    ap (λ (n : ℕ). n / 2 ^ place) (ap (λ (k : ℕ). 2 ^ k) all ∙ pow-add 2 (7 - place) place) ∙ shl-shr (2 ^ (7 - place)) place
