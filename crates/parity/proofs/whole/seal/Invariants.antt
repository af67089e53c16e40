use mathlib.Core.Path.{◌≡◌}
use lib.ListN.{length}
use Rattle.parity.specs.Units.{unit_at}
use Rattle.parity.proofs.Summing.{Summed}
use Rattle.parity.proofs.Chunks.{Left}
use Rattle.parity.proofs.whole.seal.Given as goal

abbrev pub invariant-loop-unit : goal.invariant-loop-unit
invariant-loop-unit l =
    (l.unit-iterator.size ≡ l.size)
    × Left l.size l.buffer (length l.yielded) l.unit-iterator.rest.now
    × Summed l.size l.initial.image l.n (unit_at l.size l.buffer) l.image (length l.yielded)
