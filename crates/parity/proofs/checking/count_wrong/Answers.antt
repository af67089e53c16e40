-- `parity::checking::count_wrong` meets its contract. The loop's invariant: the wrong stripes before s are counted. Assumes nothing.
use mathlib.Core.Path.{◌≡◌, sym, ap, ◌∙◌}
use mathlib.Core.Bool.{not}
use Prim.Native.Nat.{◌≤◌, ◌<◌}
use native.Mathlib.Omega.{arith}
use lib.Seq.{length-take-le}
use Rattle.placement.specs.Layout.{layout_in, stripes}
use Rattle.parity.specs.Stripe.{unit_size, others}
use Rattle.parity.proofs.Sized.{unit_size_most}
use Rattle.parity.proofs.Searching.{searched_none, found_few, searched_all, searched_wrong, searched_right}
use Rattle.parity.proofs.checking.count_wrong.Goals as goal
use Rattle.parity.proofs.checking.count_wrong.Goals.{After-of-stripes, After-gather, In-loop-s, then-not-is_zero, else-not-is_zero}

sized : (c : After-of-stripes) → c.of-stripes.result.size ≡ unit_size c.args.checked.shelf.now
sized c = c.of-stripes.result.sized ∙ ap unit_size c.of-stripes.ensures

room : (c : After-of-stripes) → c.of-stripes.result.size ≤ 4096
room c = rw (sized c) (unit_size_most c.args.checked.shelf.now c.args.checked.passed)

pub slice_bounds-row-end : goal.slice_bounds-row-end
slice_bounds-row-end c = room c

pub slice_bounds-sum-end : goal.slice_bounds-sum-end
slice_bounds-sum-end c = sym (length-take-le _ _ (room (goal.at.slice_bounds-sum-end c).After-of-stripes))

pub loop-s-init : goal.loop-s-init
loop-s-init c =
    let start = (goal.at.loop-s-init c).After-of-stripes in
    (length-take-le _ _ (room start) ∙ sized start, searched_none _ _)

-- ---- a turn

-- s is a stripe
below : (c : In-loop-s) → c.loop-s.s < stripes (layout_in c.args.checked.shelf.now)
below c = rw c.stripes-s-end.ensures at c.loop-s-test.true

pub gather-requires : goal.gather-requires
gather-requires c =
    rw c.of-stripes.ensures
    (record { size = c.requires; stripe = below (goal.at.gather-requires c).In-loop-s; unit = c.loop-s.invariant.0 })

gathered : (c : After-gather) → c.gather.new.unit ≡ others c.args.checked.shelf.now c.args.image.now c.loop-s.s c.args.checked.shelf.now.k
gathered c = rw c.of-stripes.ensures at c.gather.ensures

pub overflow_add-wrong : goal.overflow_add-wrong
overflow_add-wrong c =
    omega (arith, c.loop-s-test.true, found_few c.loop-s.invariant.1)

pub loop-s-preserved : goal.loop-s-preserved
loop-s-preserved c =
    let hs = below (goal.at.loop-s-preserved c).In-loop-s in
    let sum = gathered (goal.at.loop-s-preserved c).After-gather in (
      c.gather.auto.unit ∙ c.loop-s.invariant.0,
      elim c.if-not-is_zero.branch [
        | then-not-is_zero w ↦ rw w.wrong-is (searched_wrong c.loop-s.invariant.1 hs sum (ap not (sym c.is_zero.ensures ∙ w.if-not-is_zero.true)))
        | else-not-is_zero w ↦ rw w.wrong-is (searched_right c.loop-s.invariant.1 hs sum (ap not (sym c.is_zero.ensures ∙ w.if-not-is_zero.false)))
      ],
    )

pub returns : goal.returns
returns c = searched_all c.loop-s.invariant.1 (rw c.stripes-s-end.ensures at c.loop-s-test.false)
