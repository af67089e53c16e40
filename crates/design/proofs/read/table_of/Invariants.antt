use mathlib.Core.Path.{◌≡◌}
use Prim.Native.Nat.{ℕ, ◌<◌}
use lib.ListN.{length, get_or}
use Rattle.design.specs.Sheet.{number_of}
use Rattle.design.proofs.read.table_of.Given as goal

abbrev pub invariant-loop-i : goal.invariant-loop-i
invariant-loop-i l = (length l.entry-items ≡ l.n) × ((j : ℕ) → j < l.i → get_or l.entry-items j 0 ≡ number_of l.sheet j)
