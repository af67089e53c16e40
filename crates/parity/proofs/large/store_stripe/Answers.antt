-- `parity::large::store_stripe` meets its contract. The loop's invariant: the data before unit i are written and counted, the lost one
-- left out. Assumes nothing.
use mathlib.Core.Path.{◌≡◌, refl, sym, ap, ◌∙◌}
use Prim.Native.Nat.{◌+◌, ◌-◌, ◌<◌}
use native.Mathlib.Omega.{arith}
use lib.ListN.{length}
use lib.Pow.{pow_pos}
use Rattle.design.proofs.ShelfTests.{shelf_parts}
use Rattle.parity.specs.Units.{unit_at}
use Rattle.parity.specs.Stripe.{unit_size, unit_in}
use Rattle.parity.specs.Calls.{with_parity}
use Rattle.parity.proofs.Chunks.{left_all, next_is, next_below, left_next, left_over}
use Rattle.parity.proofs.StripeTurns.{Begun, call_two, begun_few, begun_none, begun_size, begun_fits, begun_put, begun_skip, begun_all, data_unit, parity-unit}
use Rattle.parity.proofs.large.store_stripe.Goals as goal
use Rattle.parity.proofs.large.store_stripe.Goals.{After-of-stripes, In-Some, In-None, After-number-n, After-number-parity, After-seal, Else-is_present-2}

-- ---- before the first unit

sized : (c : After-of-stripes) → c.of-stripes.result.size ≡ unit_size c.args.checked.shelf.now
sized c = c.of-stripes.result.sized ∙ ap unit_size c.of-stripes.ensures

pub chunks_exact-requires : goal.chunks_exact-requires
chunks_exact-requires c = rw (sized c) (pow_pos c.args.checked.shelf.now.u)

pub loop-i-init : goal.loop-i-init
loop-i-init c =
    let start = c.into_iter-i-iterator.ensures.into_iter_gives in
    let counted = c.enumerate-i-items.ensures in
    let chunks = c.chunks_exact.ensures in
    rw (start, counted.source, counted.count, chunks.size, chunks.rest, sized (goal.at.loop-i-init c).After-of-stripes)
    (refl, left_all (unit_size c.args.checked.shelf.now) c.args.buffer.now, begun_none c.requires)

-- ---- a turn

abbrev Turn : In-Some → Type 0
Turn c =
    let h = c.args.checked.shelf.now in
    (c.in-Some.i ≡ c.loop-i.i-iterator.count) × (c.in-Some.i < h.k - 1) × (length c.in-Some.unit.now ≡ unit_size h) × (c.in-Some.unit.now ≡ unit_at (unit_size h) c.args.buffer.now c.in-Some.i)

turn : (c : In-Some) → Turn c
turn c =
    let h = c.args.checked.shelf.now in
    let inv = c.loop-i.invariant in
    let step = c.in-Some.ensures.steps in
    let i = step.1 in
    let size : length c.in-Some.unit.now ≡ unit_size h = step.0.1.1 ∙ inv.0 in
    (i, rw i (next_below inv.1 _ _ step.0.1.0 size (h.k - 1) (pow_pos h.u) c.requires.exact), size, rw i (next_is inv.1 _ _ step.0.1.0 size))

pub number-n-requires : goal.number-n-requires
number-n-requires c =
    rw c.of-stripes.ensures (c.requires.stripe, omega (arith, (turn (goal.at.number-n-requires c).In-Some).1))

numbered : (c : After-number-n) → c.number-n.result ≡ unit_in c.args.checked.shelf.now c.args.s c.loop-i.i-iterator.count
numbered c =
    c.number-n.ensures ∙ (rw (c.of-stripes.ensures, (turn (goal.at.After-number-n c).In-Some).0) refl)

pub store-requires : goal.store-requires
store-requires c =
    let t = turn (goal.at.store-requires c).In-Some in
    rw t.2 (begun_fits c.requires c.loop-i.invariant.2 (omega (arith, t.0, t.1)) (numbered (goal.at.store-requires c).After-number-n))

pub overflow_add-written : goal.overflow_add-written
overflow_add-written c = let t = turn (goal.at.overflow_add-written c).In-Some in omega (arith, begun_few c.loop-i.invariant.2, t.0, t.1, (shelf_parts _ c.requires.stored.shelf).limits.k_most)

pub loop-i-preserved-then-is_present : goal.loop-i-preserved-then-is_present
loop-i-preserved-then-is_present c =
    let inv = c.loop-i.invariant in
    let step = c.in-Some.ensures.steps in
    let t = turn (goal.at.loop-i-preserved-then-is_present c).In-Some in
    rw step.2 (
      step.0.0 ∙ inv.0,
      left_next inv.1 _ _ step.0.1.0 t.2,
      begun_put c.requires inv.2 (omega (arith, t.0, t.1)) (numbered (goal.at.loop-i-preserved-then-is_present c).After-number-n)
          (sym c.is_present.ensures ∙ c.if-is_present.true)
          (t.3 ∙ data_unit c.requires _ t.1 ∙ ap (with_parity c.args.checked.shelf.now c.args.buffer.now) t.0)
          (rw t.2 at c.store.ensures),
    )

pub loop-i-preserved : goal.loop-i-preserved
loop-i-preserved c =
    let inv = c.loop-i.invariant in
    let step = c.in-Some.ensures.steps in
    let t = turn (goal.at.loop-i-preserved c).In-Some in
    rw step.2 (
      step.0.0 ∙ inv.0,
      left_next inv.1 _ _ step.0.1.0 t.2,
      begun_skip c.requires inv.2 (omega (arith, t.0, t.1)) (numbered (goal.at.loop-i-preserved c).After-number-n) (sym c.is_present.ensures ∙ c.if-is_present.false),
    )

-- ---- the parity

-- all data are written
at-end : (c : In-None) → let a = c.args in
    Begun a.checked.shelf.now a.image.now a.s a.buffer.now (a.checked.shelf.now.k - 1) c.loop-i.image c.loop-i.written
at-end c =
    let inv = c.loop-i.invariant in
    let few = c.in-None.ensures.steps.0.1.0 in
    rw (left_over inv.1 (c.args.checked.shelf.now.k - 1) (pow_pos c.args.checked.shelf.now.u) c.requires.exact (omega (arith, few, inv.0))) at inv.2

pub overflow_sub-checked : goal.overflow_sub-checked
overflow_sub-checked c = omega (arith, call_two c.requires)

pub number-parity-requires : goal.number-parity-requires
number-parity-requires c = rw c.of-stripes.ensures (c.requires.stripe, omega (arith, call_two c.requires))

sealed_at : (c : After-number-parity) → c.number-parity.result ≡ unit_in c.args.checked.shelf.now c.args.s (c.args.checked.shelf.now.k - 1)
sealed_at c = c.number-parity.ensures ∙ (rw c.of-stripes.ensures refl)

pub seal-requires : goal.seal-requires
seal-requires c =
    rw c.of-stripes.ensures
    (record { unit = begun_fits c.requires (at-end (goal.at.seal-requires c).In-None) (omega (arith, call_two c.requires)) (sealed_at (goal.at.seal-requires c).After-number-parity); buffer = c.requires.exact })

pub overflow_add-written-then-is_present-2 : goal.overflow_add-written-then-is_present-2
overflow_add-written-then-is_present-2 c =
    omega (arith, begun_few (at-end (goal.at.overflow_add-written-then-is_present-2 c).In-None), (shelf_parts _ c.requires.stored.shelf).limits.k_most)

-- the parity is written too
sealed : (c : After-seal) → let a = c.args in
    Begun a.checked.shelf.now a.image.now a.s a.buffer.now (a.checked.shelf.now.k - 1 + 1) c.seal.new.image (c.loop-i.written + 1)
sealed c =
    let t = c.requires in
    begun_put t (at-end (goal.at.After-seal c).In-None) (omega (arith, call_two t)) (sealed_at (goal.at.After-seal c).After-number-parity)
    (sym c.is_present-2.ensures ∙ c.if-is_present-2.true) (parity-unit t) (rw c.of-stripes.ensures at c.seal.ensures)

pub shape_of-image-then-is_present-2 : goal.shape_of-image-then-is_present-2
shape_of-image-then-is_present-2 c = begun_size c.requires (sealed (goal.at.shape_of-image-then-is_present-2 c).After-seal)

pub returns-then-is_present-2 : goal.returns-then-is_present-2
returns-then-is_present-2 c = begun_all c.requires (sealed (goal.at.returns-then-is_present-2 c).After-seal)

-- the parity is left out
unsealed : (c : Else-is_present-2) → let a = c.args in
    Begun a.checked.shelf.now a.image.now a.s a.buffer.now (a.checked.shelf.now.k - 1 + 1) c.loop-i.image c.loop-i.written
unsealed c =
    let t = c.requires in
    begun_skip t (at-end (goal.at.Else-is_present-2 c).In-None) (omega (arith, call_two t)) (sealed_at (goal.at.Else-is_present-2 c).After-number-parity)
    (sym c.is_present-2.ensures ∙ c.if-is_present-2.false)

pub shape_of-image-else-is_present-2 : goal.shape_of-image-else-is_present-2
shape_of-image-else-is_present-2 c = begun_size c.requires c.loop-i.invariant.2

pub returns-else-is_present-2 : goal.returns-else-is_present-2
returns-else-is_present-2 c = begun_all c.requires (unsealed c)
