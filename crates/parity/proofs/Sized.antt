-- The sizes of a shelf within the limits of document 01: a unit has at most 4,096 bytes, and every byte of the image has a
-- number that fits a machine word. Assumes nothing.
use mathlib.Core.Path.{◌≡◌}
use mathlib.Core.Bool.{true}
use Prim.Native.Nat.{◌-◌, ◌*◌, ◌^◌, ◌≤◌}
use native.Mathlib.Nat.{mul-le-mul}
use native.Mathlib.Omega.{arith}
use lib.Pow.{pow_mono}
use Rattle.design.specs.declared.Shelf.{Shelf}
use Rattle.design.specs.Shelf.{is_shelf}
use Rattle.design.proofs.ShelfTests.{shelf_parts}
use Rattle.placement.proofs.Bounds.{bounds}
use Rattle.parity.specs.Stripe.{unit_size, depth, units, image_size}

pub unit_size_most : (h : Shelf) → is_shelf h ≡ true → unit_size h ≤ 4096
unit_size_most h e = omega (arith, pow_mono (shelf_parts h e).limits.u_most)

pub units_most : (h : Shelf) → is_shelf h ≡ true → units h ≤ 64 * 2 ^ 27
units_most h e =
    let d : depth h ≤ 2 ^ 27 = omega (arith, (bounds h e).offsets) in
    mul-le-mul (shelf_parts h e).limits.v_most d

pub image_size_most : (h : Shelf) → is_shelf h ≡ true → image_size h ≤ 2 ^ 45
image_size_most h e = omega (arith, mul-le-mul (units_most h e) (unit_size_most h e))

-- the data units of a stripe
pub stripe_size_most : (h : Shelf) → is_shelf h ≡ true → (h.k - 1) * unit_size h ≤ 15 * 4096
stripe_size_most h e =
    let l = (shelf_parts h e).limits in
    let most : h.k - 1 ≤ 15 = omega (arith, l.k_most) in
    mul-le-mul most (unit_size_most h e)
