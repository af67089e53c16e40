-- `host::sizes::measure` meets its contract: there are at most 2,048 disk numbers, and the image has at most 2 ^ 45 bytes. Assumes
-- nothing.
use mathlib.Core.Path.{refl, ap₂}
use Prim.Native.Nat.{ℕ, ◌*◌, ◌≤◌}
use native.Mathlib.Omega.{arith}
use Rattle.design.specs.Sheet.{sheet_length}
use Rattle.design.proofs.ShelfTests.{shelf_parts}
use Rattle.parity.proofs.Sized.{units_most, image_size_most}
use Rattle.host.proofs.Bits.{unit-bit}
use Rattle.host.proofs.sizes.measure.Goals as goal
use Rattle.host.proofs.sizes.measure.Goals.{In-Ok}

places : (c : In-Ok) → let h = c.in-Ok.checked.shelf.now in h.b * h.k ≤ 2048
places c = (shelf_parts _ c.in-Ok.checked.passed).limits.places

pub overflow_shl-unit : goal.overflow_shl-unit
overflow_shl-unit c = omega (arith, (shelf_parts _ c.in-Ok.checked.passed).limits.u_most)

pub overflow_mul-sheet : goal.overflow_mul-sheet
overflow_mul-sheet c = omega (arith, places (goal.at.overflow_mul-sheet c).In-Ok)

pub overflow_mul-sheet-2 : goal.overflow_mul-sheet-2
overflow_mul-sheet-2 c = omega (arith, places (goal.at.overflow_mul-sheet-2 c).In-Ok)

pub overflow_add-sheet : goal.overflow_add-sheet
overflow_add-sheet c = omega (arith, places (goal.at.overflow_add-sheet c).In-Ok)

pub overflow_add-sheet-2 : goal.overflow_add-sheet-2
overflow_add-sheet-2 c = omega (arith, places (goal.at.overflow_add-sheet-2 c).In-Ok)

pub overflow_mul-image : goal.overflow_mul-image
overflow_mul-image c = rw c.offsets-offsets.ensures (omega (arith, units_most _ c.in-Ok.checked.passed))

pub overflow_mul-image-2 : goal.overflow_mul-image-2
overflow_mul-image-2 c =
    let ok = c.in-Ok.checked.passed in
    rw (c.offsets-offsets.ensures, unit-bit _ ok) (omega (arith, image_size_most _ ok))

pub returns : goal.returns
unfolding sheet_length
returns c =
    let h = c.in-Ok.checked in
    let unit = unit-bit _ h.passed in
    let image = ap₂ (λ (o U : ℕ). h.shelf.now.v * o * U) c.offsets-offsets.ensures unit in
    rw (← c.shelf-taken.ensures, ← c.in-Ok.ensures.passed, h.passed)
    record { sheet = refl; image = image; unit = unit; stripes = c.stripes.ensures; addresses = c.addresses.ensures; offsets = c.offsets-offsets.ensures }
