use Prim.Native.Nat.{◌≤◌}
use lib.ListN.{length}
use Rattle.parity.specs.inner.Blocks.{numbered, blocks_at}
use Rattle.parity.proofs.Rest.{Gathered}
use Rattle.parity.proofs.blocks.rest.Given as goal

abbrev pub invariant-loop-j : goal.invariant-loop-j
invariant-loop-j l = (l.j ≤ length l.numbers) × Gathered 128 l.row (blocks_at (numbered l.numbers) l.per l.q) l.i l.block l.j
