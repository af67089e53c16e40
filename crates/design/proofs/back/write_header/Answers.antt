-- `design::back::write_header` meets its contract: each write adds its piece to those packed before it, and a shelf's numbers fit
-- their fields. Assumes nothing.
use mathlib.Core.Path.{◌≡◌, refl}
use mathlib.Core.Bool.{true}
use mathlib.Core.List.{List}
use Prim.Native.Nat.{ℕ, ◌+◌, ◌≤◌}
use native.Mathlib.Nat.{mul-le-mul_left}
use native.Mathlib.Omega.{arith}
use lib.ListN.{length}
use Rattle.fields.specs.Field.{is_field}
use Rattle.fields.proofs.Laws.{is_field_iff}
use Rattle.design.specs.Sheet.{Limits}
use Rattle.design.specs.Shelf.{header_in}
use Rattle.design.proofs.ShelfTests.{shelf_parts}
use Rattle.design.proofs.Packing.{bits_of, packed_none, packed_put}
use Rattle.design.proofs.back.write_header.Goals as goal
use Rattle.design.proofs.back.write_header.Goals.{Start}

-- the header's bits
within : (s s' : List ℕ) (at width : ℕ) → 6 ≤ length s → length s' ≡ length s → 1 ≤ width → width ≤ 32 → at + width ≤ 48 → is_field s' at width ≡ true
within s s' at width h e a b m = (is_field_iff s' at width).1 (omega arith)

limits : (c : Start) → let h = c.args.shelf in Limits h.v h.k h.b h.T h.u
limits c = (shelf_parts c.args.shelf c.requires.0).limits

pub put-requires : goal.put-requires
put-requires c = (within _ _ 0 4 c.requires.1 refl (omega arith) (omega arith) (omega arith), omega arith)

pub put-requires-2 : goal.put-requires-2
put-requires-2 c = (within _ _ 4 7 c.requires.1 (omega arith) (omega arith) (omega arith) (omega arith), omega (arith, limits (goal.at.put-requires-2 c).Start))

pub put-requires-3 : goal.put-requires-3
put-requires-3 c = (within _ _ 11 5 c.requires.1 (omega arith) (omega arith) (omega arith) (omega arith), omega (arith, limits (goal.at.put-requires-3 c).Start))

pub put-requires-4 : goal.put-requires-4
put-requires-4 c =
    let l = limits (goal.at.put-requires-4 c).Start in
    (within _ _ 16 12 c.requires.1 (omega arith) (omega arith) (omega arith) (omega arith), omega (arith, l, mul-le-mul_left c.args.shelf.b l.k_least))

pub put-requires-5 : goal.put-requires-5
put-requires-5 c = (within _ _ 28 16 c.requires.1 (omega arith) (omega arith) (omega arith) (omega arith), omega (arith, limits (goal.at.put-requires-5 c).Start))

pub put-requires-6 : goal.put-requires-6
put-requires-6 c = (within _ _ 44 4 c.requires.1 (omega arith) (omega arith) (omega arith) (omega arith), omega (arith, limits (goal.at.put-requires-6 c).Start))

pub returns : goal.returns
unfolding header_in bits_of
returns c =
    let s = c.args.sheet.now in
    let edition = packed_put s 0 _ 0 4 1 c.put.ensures (packed_none s 0) refl in
    let v = packed_put s 0 _ 4 7 _ c.put-2.ensures edition refl in
    let k = packed_put s 0 _ 11 5 _ c.put-3.ensures v refl in
    let b = packed_put s 0 _ 16 12 _ c.put-4.ensures k refl in
    let T = packed_put s 0 _ 28 16 _ c.put-5.ensures b refl in
    packed_put s 0 _ 44 4 _ c.put-6.ensures T refl
