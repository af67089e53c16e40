-- The pass that ranks the entries: what its counts hold after the first i. Assumes nothing.
use mathlib.Core.Path.{◌≡◌, sym, ◌∙◌}
use mathlib.Core.Logic.{◌⊎◌, inl, inr}
use mathlib.Core.Bool.{true, false, cond}
use mathlib.Core.List.{List}
use Prim.Native.Nat.{ℕ, ◌+◌, ◌<◌}
use native.Mathlib.Omega.{arith}
use lib.Dec.{eqb}
use lib.ListN.{length, get_or, set, replicate, get_or-replicate}
use lib.Seq.{get_or-set_same, get_or-set_other}
use borrow.Author.Tests.{eqb-true, eqb-false}
use Rattle.design.specs.Count.{count}
use Rattle.design.proofs.Counting.{decided}
use Rattle.design.proofs.Sums.{count_next}
use Rattle.design.proofs.Reading.{Filled}
use Rattle.placement.specs.Entries.{is_disk, rank_in}

-- entry i is raised by one
get_or_raised : (l : List ℕ) (i x : ℕ) → i < length l → get_or (set l i (get_or l i 0 + 1)) x 0 ≡ get_or l x 0 + cond (eqb i x) 1 0
get_or_raised l i x h = go (decided (eqb i x))
  where
    go : (eqb i x ≡ true) ⊎ (eqb i x ≡ false) → get_or (set l i (get_or l i 0 + 1)) x 0 ≡ get_or l x 0 + cond (eqb i x) 1 0
    go (inl e) = rw (e, ← eqb-true i x e) (get_or-set_same l i (get_or l i 0 + 1) 0 h)
    go (inr e) = rw e (get_or-set_other l i x (get_or l i 0 + 1) 0 (λ q. eqb-false i x e (sym q)) ∙ omega arith)

-- how many entries are each disk
abbrev pub Counted : List ℕ → ℕ → List ℕ → Type 0
Counted table i counts = (d : ℕ) → d < 64 → get_or counts d 0 ≡ count (is_disk table d) i

pub counted_none : (table : List ℕ) → Counted table 0 (replicate 64 0)
unfolding count
counted_none table d h = get_or-replicate 64 d 0 0 h

pub counted_next : (table : List ℕ) (i : ℕ) (counts : List ℕ) → get_or table i 0 < length counts → Counted table i counts
    → Counted table (i + 1) (set counts (get_or table i 0) (get_or counts (get_or table i 0) 0 + 1))
counted_next table i counts h so_far d l =
    omega (arith, get_or_raised counts (get_or table i 0) d h, so_far d l, count_next (is_disk table d) i)

-- the first i entries are counted and ranked
pub record Ranking (table : List ℕ) (i : ℕ) (counts ranks : List ℕ) : Type 0 where
  pub disks : length counts ≡ 64
  pub places : length ranks ≡ 2048
  pub counted : Counted table i counts
  pub ranked : Filled (rank_in table) i ranks
