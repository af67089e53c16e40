use mathlib.Core.Path.{◌≡◌}
use mathlib.Core.List.{List}
use Prim.Native.Nat.{ℕ, ◌-◌, ◌*◌}
use lib.ListN.{length}
use Rattle.design.proofs.Writing.{Begun}
use Rattle.parity.specs.Units.{unit_at, xor_u}
use Rattle.parity.proofs.units.mix_both.Given as goal

-- unit `to` with unit `from` and the lent one mixed into it
abbrev pub Mixed : List ℕ → ℕ → ℕ → List ℕ → List ℕ
Mixed image to from unit = xor_u (unit_at (length unit) image to) (xor_u (unit_at (length unit) image from) unit)

abbrev pub invariant-loop-i : goal.invariant-loop-i
invariant-loop-i l = (l.size ≡ length l.unit) × Begun l.initial.image (l.to * length l.unit) (Mixed l.initial.image l.to l.from l.unit) (length l.unit) l.image l.i

abbrev pub decreases-loop-i : goal.decreases-loop-i
decreases-loop-i l = l.size - l.i
