-- `parity::stripe::Stripes::numbers` meets its contract. The loop's invariant: the numbers before i are those of the units. Assumes nothing.
use mathlib.Core.Path.{sym, ◌∙◌}
use Prim.Native.Nat.{ℕ, ◌≤◌}
use native.Mathlib.Omega.{arith}
use lib.ListN.{get_or-append, length-set, length-append, length-drop, replicate}
use lib.Seq.{length-take-le}
use borrow.Author.Count.{below_none}
use Rattle.parity.proofs.Ready.{reckoned}
use Rattle.parity.proofs.Rest.{listed_next}
use Rattle.parity.proofs.stripe.Stripes.numbers.Goals as goal
use Rattle.parity.proofs.stripe.Stripes.numbers.Goals.{Start}

most : (c : Start) → c.args.self.now.checked.shelf.now.k ≤ 16
most c = (reckoned _ c.args.self.now.checked.passed _ c.requires).most

pub slice_bounds-numbers-end : goal.slice_bounds-numbers-end
slice_bounds-numbers-end c = most c

pub slice_bounds-number-items-end : goal.slice_bounds-number-items-end
slice_bounds-number-items-end c = sym (length-take-le _ _ (most (goal.at.slice_bounds-number-items-end c).Start))

pub loop-i-init : goal.loop-i-init
loop-i-init c = (omega arith, length-take-le _ _ (most (goal.at.loop-i-init c).Start), below_none _)

pub number-requires : goal.number-requires
number-requires c = (c.requires, omega (arith, c.loop-i.auto.number-items, c.loop-i.invariant.1, c.loop-i-test.true))

pub loop-i-preserved : goal.loop-i-preserved
loop-i-preserved c =
    let inv = c.loop-i.invariant in
    let here = c.loop-i-test.true in (
      omega (arith, c.loop-i.auto.number-items, inv.1),
      length-set c.loop-i.number-items c.loop-i.i _ ∙ inv.1,
      listed_next c.loop-i.number-items _ c.loop-i.i inv.2 (omega (arith, c.loop-i.auto.number-items)) c.number.ensures,
    )

pub returns : goal.returns
returns c =
    let inv = c.loop-i.invariant in
    record {
      count = length-append c.loop-i.number-items _ ∙ (omega (arith, inv.1, length-drop {A = ℕ} c.args.self.now.checked.shelf.now.k (replicate 16 0), most (goal.at.returns c).Start));
      listed = λ j l. get_or-append c.loop-i.number-items _ 0 j (omega (arith, inv.1)) ∙ inv.2 j (omega (arith, c.loop-i-test.false, c.loop-i.auto.number-items, inv.1));
    }
