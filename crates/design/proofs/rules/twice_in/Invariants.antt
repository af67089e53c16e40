use Rattle.std.specs.Prelude.{None}
use mathlib.Core.Path.{◌≡◌}
use mathlib.Core.Bool.{true}
use Prim.Native.Nat.{ℕ, ◌<◌}
use lib.ListN.{length}
use Rattle.design.specs.inner.Tally.{disk_at}
use Rattle.design.proofs.Twice.{once_up_to}
use Rattle.design.proofs.rules.twice_in.Given as goal

-- the disk at i stands at no later position before j
abbrev pub Passed : (ℕ → ℕ) → ℕ → ℕ → Type 0
Passed tuple i j = (p : ℕ) → p < j → i < p → tuple i ≡ tuple p → ⊥

abbrev pub invariant-loop-j : goal.invariant-loop-j
invariant-loop-j l = (l.found ≡ None) × Passed (disk_at l.tuple) l.i l.j

abbrev pub invariant-search : goal.invariant-search
invariant-search l = (l.found ≡ None) × (once_up_to l.i (disk_at l.tuple) (length l.tuple) ≡ true)
