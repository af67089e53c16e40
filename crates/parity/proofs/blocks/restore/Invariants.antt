use Prim.Native.Nat.{◌*◌}
use lib.ListN.{length}
use Rattle.parity.specs.inner.Blocks.{rest_of, numbered}
use Rattle.parity.proofs.ByBlocks.{Filled}
use Rattle.parity.proofs.blocks.restore.Given as goal

abbrev pub invariant-loop-q : goal.invariant-loop-q
invariant-loop-q l = Filled 128 l.per l.initial.image (numbered l.numbers l.i) (rest_of (l.per * 128) l.initial.image (numbered l.numbers) l.i (length l.numbers)) l.image l.q
