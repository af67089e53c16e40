-- `parity::whole::reparity` meets its contract. The loop's invariant: the last unit is the exclusive-or of the data before data i, with
-- the lent unit for data j. Assumes nothing.
use mathlib.Core.Path.{◌≡◌, refl, ◌∙◌}
use Prim.Native.Nat.{◌-◌, ◌<◌}
use native.Mathlib.Omega.{arith}
use lib.ListN.{length, get_or, take, length-replicate}
use lib.Seq.{length-take-le, get_or-take}
use Rattle.parity.specs.inner.Blocks.{numbered}
use Rattle.parity.proofs.StripeSums.{stripe_none, stripe_next, stripe-lent, stripe-all}
use Rattle.parity.proofs.whole.reparity.Goals as goal
use Rattle.parity.proofs.whole.reparity.Goals.{In-loop-i, then-i-j, else-i-j}

pub loop-i-init : goal.loop-i-init
loop-i-init c = (omega arith, stripe_none c.args.image.now c.requires.placed (omega (arith, c.requires.bounds)) refl c.clear_unit.ensures)

-- the turn's unit is one of the data, and so it has this number
turn : (c : In-loop-i) → let numbers = c.args.numbers.now in
    (c.loop-i.i < length numbers - 1) × (get_or (take (length numbers - 1) numbers) c.loop-i.i 0 ≡ numbered numbers c.loop-i.i)
turn c =
    let numbers = c.args.numbers.now in
    let size = length-take-le (length numbers - 1) numbers (omega arith) in
    (omega (arith, size, c.loop-i-test.true), get_or-take (length numbers - 1) numbers c.loop-i.i 0 (omega (arith, size, c.loop-i-test.true)))

pub loop-i-preserved : goal.loop-i-preserved
loop-i-preserved c =
    let sum = c.loop-i.invariant.1 in
    let here = turn (goal.at.loop-i-preserved c).In-loop-i in (
      omega (arith, here.0),
      elim c.if-i-j.branch [
        | then-i-j w ↦ stripe-lent sum w.if-i-j.true refl (w.image-is ∙ w.mix_in.ensures)
        | else-i-j w ↦ stripe_next sum (omega (arith, here.0)) here.1 (omega (arith, here.0)) w.if-i-j.false (w.image-is ∙ w.mix_within.ensures)
      ],
    )

pub returns : goal.returns
returns c =
    let inv = c.loop-i.invariant in
    let size = length-take-le (length c.args.numbers.now - 1) c.args.numbers.now (omega arith) in
    stripe-all inv.1 c.args.image.now _ c.requires.placed (length-replicate _ 0) c.clear_unit.ensures inv.0 (omega (arith, size, c.loop-i-test.false)) (omega arith) (λ n l ne e. omega arith)
