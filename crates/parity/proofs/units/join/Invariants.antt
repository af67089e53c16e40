use mathlib.Core.List.{List}
use Prim.Native.Nat.{ℕ, ◌-◌, ◌*◌}
use Rattle.design.proofs.Writing.{Begun}
use Rattle.parity.specs.Units.{unit_at, xor_u}
use Rattle.parity.proofs.units.join.Given as goal

abbrev pub Joined : ℕ → List ℕ → ℕ → ℕ → List ℕ
Joined size image x y = xor_u (unit_at size image x) (unit_at size image y)

abbrev pub invariant-loop-i : goal.invariant-loop-i
invariant-loop-i l = Begun l.initial.image (l.to * l.size) (Joined l.size l.initial.image l.x l.y) l.size l.image l.i

abbrev pub decreases-loop-i : goal.decreases-loop-i
decreases-loop-i l = l.size - l.i
