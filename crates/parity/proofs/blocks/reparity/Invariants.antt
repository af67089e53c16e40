use Prim.Native.Nat.{◌-◌, ◌*◌}
use lib.ListN.{length}
use Rattle.parity.specs.Units.{xor_u}
use Rattle.parity.specs.inner.Blocks.{rest_of, numbered}
use Rattle.parity.proofs.ByBlocks.{Filled}
use Rattle.parity.proofs.blocks.reparity.Given as goal

abbrev pub invariant-loop-q : goal.invariant-loop-q
invariant-loop-q l = Filled 128 l.per l.initial.image (numbered l.numbers (length l.numbers - 1)) (xor_u (rest_of (l.per * 128) l.initial.image (numbered l.numbers) l.i (length l.numbers - 1)) l.unit) l.image l.q
