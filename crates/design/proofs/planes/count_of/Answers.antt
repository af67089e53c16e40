-- `design::planes::count_of` meets its contract. The loop's invariant: n is the lane of the planes passed. Assumes nothing.
use mathlib.Core.Path.{◌≡◌}
use Prim.Native.Nat.{◌+◌, ◌*◌, ◌/◌, ◌%◌, ◌^◌}
use native.Mathlib.Omega.{arith}
use lib.Bits.{bit_and}
use Rattle.design.specs.inner.Planes.{lane, plane_of}
use Rattle.design.proofs.Lanes.{lane_next, lane_small}
use Rattle.design.proofs.planes.count_of.Goals as goal
use Rattle.design.proofs.planes.count_of.Goals.{In-loop-i}

pub loop-i-init : goal.loop-i-init
unfolding lane
loop-i-init c = omega arith

-- one plane more
next : (c : In-loop-i) → let a = c.args in
    c.loop-i.n + (bit_and (plane_of a.row.now c.loop-i.i / 2 ^ a.e) 1 * 2 ^ c.loop-i.i) % 2 ^ 64
    ≡ lane (plane_of a.row.now) (c.loop-i.i + 1) a.e
next c =
    let a = c.args in
    rw c.loop-i.invariant (lane_next (plane_of a.row.now) a.e c.loop-i.i (omega arith))

pub overflow_add-n : goal.overflow_add-n
overflow_add-n c =
    let a = c.args in
    omega (arith, next (goal.at.overflow_add-n c).In-loop-i, lane_small (plane_of a.row.now) (c.loop-i.i + 1) a.e 64 (omega arith))

pub loop-i-preserved : goal.loop-i-preserved
loop-i-preserved c = next (goal.at.loop-i-preserved c).In-loop-i
