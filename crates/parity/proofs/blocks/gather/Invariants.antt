use Prim.Native.Nat.{◌*◌}
use lib.ListN.{length}
use Rattle.parity.specs.inner.Blocks.{rest_of, numbered}
use Rattle.parity.proofs.ByBlocks.{Filled}
use Rattle.parity.proofs.blocks.gather.Given as goal

abbrev pub invariant-loop-q : goal.invariant-loop-q
invariant-loop-q l = Filled 128 l.per l.initial.to l.n (rest_of (l.per * 128) l.row (numbered l.numbers) l.i (length l.numbers)) l.to l.q
