use mathlib.Core.Path.{◌≡◌}
use Prim.Native.Nat.{◌-◌, ◌/◌, ◌^◌, ◌≤◌}
use Rattle.fields.specs.Field.{with_field}
use Rattle.fields.proofs.write.Given as goal

abbrev pub invariant-loop-done : goal.invariant-loop-done
invariant-loop-done l = (l.done ≤ l.width) × (l.bytes ≡ with_field l.initial.bytes l.at l.done (l.value / 2 ^ (l.width - l.done)))
