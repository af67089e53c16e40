-- `parity::whole::restore` meets its contract. The loop's invariant: unit i is the exclusive-or of the units so far but itself. No two have
-- the same number, so that the one that is passed over is unit i. Assumes nothing.
use mathlib.Core.Path.{◌≡◌, refl, sym, ap, ◌∙◌}
use mathlib.Core.Logic.{◌≢◌}
use Prim.Native.Nat.{ℕ, ◌+◌, ◌-◌, ◌<◌}
use native.Mathlib.Omega.{arith}
use lib.ListN.{length, get_or, take, drop, length-replicate}
use Rattle.parity.specs.inner.Blocks.{numbered}
use Rattle.parity.proofs.Rest.{rest_size, later_size, later_at}
use Rattle.parity.proofs.StripeSums.{stripe_begun, stripe_next, stripe_over, stripe-all}
use Rattle.parity.proofs.whole.restore.Goals as goal
use Rattle.parity.proofs.whole.restore.Goals.{In-loop-from, then-from-to, else-from-to}

pub loop-from-init : goal.loop-from-init
loop-from-init c =
    let begun = c.begin-begun.ensures in
    let none : c.begin-begun.result + 0 ≡ c.begin-begun.result = omega arith in
    (omega arith, rw none (stripe_begun c.args.image.now c.requires.placed c.requires.bounds.1 refl (length-replicate _ 0) begun.0 (λ n l ne. ne) begun.1))

-- the turn's unit is one of them, and so it has this number
turn : (c : In-loop-from) → let numbers = c.args.numbers.now in
    let j : ℕ = c.begin-begun.result + c.loop-from.from-index in
    (j < length numbers) × (get_or (take (length numbers - c.begin-begun.result) (drop c.begin-begun.result numbers)) c.loop-from.from-index 0 ≡ numbered numbers j)
turn c =
    let numbers = c.args.numbers.now in
    let size = later_size numbers _ c.begin-begun.ensures.0 in
    (omega (arith, size, c.loop-from-test.true), later_at numbers _ c.begin-begun.ensures.0 _ (omega (arith, size, c.loop-from-test.true)))

pub loop-from-preserved : goal.loop-from-preserved
loop-from-preserved c =
    let sum = c.loop-from.invariant.1 in
    let here = turn (goal.at.loop-from-preserved c).In-loop-from in
    let begun : ℕ = c.begin-begun.result in
    let number : ℕ → ℕ = numbered c.args.numbers.now in
    let next : begun + (c.loop-from.from-index + 1) ≡ begun + c.loop-from.from-index + 1 = omega arith in (
      omega arith,
      rw next (elim c.if-from-to.branch [
        | then-from-to w ↦ (let ne : begun + c.loop-from.from-index ≢ c.args.i = λ e. w.if-from-to.true (here.1 ∙ ap number e) in
            stripe_next sum here.0 here.1 ne ne (w.image-is ∙ w.mix_within.ensures))
        | else-from-to w ↦ rw w.image-is (stripe_over sum (c.requires.placed.apart _ _ here.0 c.requires.bounds.1 (sym here.1 ∙ w.if-from-to.false)) refl)
      ]),
    )

pub returns : goal.returns
returns c =
    let begun = c.begin-begun.ensures in
    let P = c.requires.placed in
    let number : ℕ → ℕ = numbered c.args.numbers.now in
    let size = later_size c.args.numbers.now _ begun.0 in
    stripe-all c.loop-from.invariant.1 c.args.image.now _ P
    (rest_size c.args.size c.args.image.now number c.begin-begun.result (λ n l. P.within n (omega (arith, begun.0))) c.args.i)
    begun.1 (omega (arith, size, c.loop-from.invariant.0)) (omega (arith, size, c.loop-from-test.false)) (omega arith) (λ n l ne. ne)
