-- `parity::whole::begin` meets its contract: a cleared unit is the exclusive-or of none, and two joined are that of the first two.
-- Assumes nothing.
use mathlib.Core.Path.{◌≡◌, sym, ap, ap₂, ◌∙◌}
use mathlib.Core.List.{List}
use Prim.Native.Nat.{ℕ, ◌+◌, ◌<◌}
use native.Mathlib.Omega.{arith}
use lib.ListN.{length}
use Rattle.parity.specs.Units.{unit_at, xor_u, xor_sum}
use Rattle.parity.specs.inner.Stores.{put_unit}
use Rattle.parity.specs.inner.Blocks.{rest_of, numbered}
use Rattle.parity.proofs.Put.{unit_size}
use Rattle.parity.proofs.FirstTwo.{two_beside, first_two}
use Rattle.parity.proofs.whole.begin.Goals as goal

pub returns-then-numbers-eq2 : goal.returns-then-numbers-eq2
unfolding xor_sum
returns-then-numbers-eq2 c = (omega arith, c.clear_unit.ensures)

pub returns : goal.returns
returns c =
    let U : ℕ = c.args.size in
    let image : List ℕ = c.args.image.now in
    let number : ℕ → ℕ = numbered c.args.numbers.now in
    let sized : (m : ℕ) → m < 3 → length (unit_at U image (number m)) ≡ U = λ m l. unit_size U image (number m) (c.requires.within m (omega arith)) in
    let beside = two_beside c.args.i (length c.args.numbers.now) (omega arith) in (
      omega (arith, beside.1, c.second_beside-second.ensures),
      c.join.ensures
          ∙ ap (put_unit U image (number c.args.i))
          (ap₂ (λ (x y : ℕ). xor_u (unit_at U image (number x)) (unit_at U image (number y))) c.first_beside.ensures c.second_beside-second.ensures
          ∙ sym (first_two U (λ m. unit_at U image (number m)) sized c.args.i)
          ∙ ap (λ (m : ℕ). rest_of U image number c.args.i (m + 1)) (sym c.second_beside-second.ensures)),
    )
