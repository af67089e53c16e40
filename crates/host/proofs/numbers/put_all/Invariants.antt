use mathlib.Core.Path.{◌≡◌}
use lib.ListN.{length}
use Rattle.host.specs.Numbers.{numbered}
use Rattle.host.proofs.Numbering.{left_to_put}
use Rattle.host.proofs.numbers.put_all.Given as goal

abbrev pub invariant-loop-i : goal.invariant-loop-i
invariant-loop-i l = (length l.bytes ≡ length l.initial.bytes) × (left_to_put l.bytes l.from l.list l.i ≡ numbered l.initial.bytes l.from l.list)
