-- The numbers that placing the units of a shelf comes to, within the limits of document 01: they fit a machine word. Assumes nothing.
use mathlib.Core.Path.{◌≡◌}
use mathlib.Core.Bool.{true}
use Prim.Native.Nat.{◌-◌, ◌*◌, ◌^◌, ◌≤◌, ◌<◌}
use native.Mathlib.Nat.{mul-le-mul, mul-le-mul_left, mul-le-mul_right, le-mul_of_pos_right}
use native.Mathlib.Omega.{arith}
use Rattle.design.specs.declared.Shelf.{Shelf}
use Rattle.design.specs.Tuples.{holds, before}
use Rattle.design.specs.Shelf.{design_in, is_shelf}
use Rattle.design.proofs.Counting.{count-le}
use Rattle.design.proofs.ShelfTests.{shelf_parts}
use Rattle.placement.specs.Layout.{layout_in, stripes, addresses, offsets}

pub record Bounds (h : Shelf) : Type 0 where
  pub rows : h.T * h.b < 2 ^ 27
  pub stripes : stripes (layout_in h) < 2 ^ 27
  pub addresses : addresses (layout_in h) < 2 ^ 31
  pub units : h.T * h.r < 2 ^ 27
  pub offsets : offsets (layout_in h) < 2 ^ 27

-- a disk stands in no more tuples than there are
pub often_most : (h : Shelf) → is_shelf h ≡ true → h.r ≤ h.b
unfolding before
often_most h e =
    let w = shelf_parts h e in
    omega (arith, w.often 0 (omega (arith, w.limits.v_least)), count-le (λ q. holds (design_in h) q 0) h.b)

pub bounds : (h : Shelf) → is_shelf h ≡ true → Bounds h
bounds h e =
    let l = (shelf_parts h e).limits in
    let S : stripes (layout_in h) ≤ 65535 * 2048 = omega (arith, mul-le-mul l.T_most l.places) in
    let rows : h.T * h.b ≤ h.T * h.b * h.k = le-mul_of_pos_right (h.T * h.b) (omega arith) in
    let units : h.T * h.r ≤ h.T * h.b = mul-le-mul_left h.T (often_most h e) in
    let each : h.k - 1 ≤ 15 = omega arith in
    record {
      rows = omega arith;
      stripes = omega arith;
      addresses = omega (arith, mul-le-mul S each);
      units = omega arith;
      offsets = omega (arith, mul-le-mul_right h.k units);
    }
