-- `placement::unchecked::ranks` meets its contract. The loop's invariant: the entries passed are counted and ranked. Assumes nothing.
use mathlib.Core.Path.{◌≡◌, refl, ap, subst, ◌∙◌}
use Prim.Native.Nat.{ℕ, ◌<◌}
use native.Mathlib.Omega.{arith}
use lib.ListN.{get_or, length-set}
use lib.Seq.{get_or-take, length-take-le}
use Rattle.design.specs.Count.{count}
use Rattle.design.proofs.Counting.{count-le}
use Rattle.design.proofs.Reading.{Filled, filled_none, filled_more}
use Rattle.placement.specs.Entries.{is_disk, rank_in, ranks_of}
use Rattle.placement.proofs.PerEntry.{filled_per_entry}
use Rattle.placement.proofs.Ranks.{counted_none, counted_next}
use Rattle.placement.proofs.unchecked.ranks.Goals as goal
use Rattle.placement.proofs.unchecked.ranks.Goals.{After-from-disk, In-loop-i}

-- the entry is one of the first n
before_n : (c : In-loop-i) → c.loop-i.i < c.args.n
before_n c = omega (arith, length-take-le c.args.n c.args.table.now (omega arith))

disk_is : (c : After-from-disk) → c.from-disk.result ≡ get_or c.args.table.now c.loop-i.i 0
disk_is c = c.from-disk.ensures ∙ get_or-take c.args.n c.args.table.now c.loop-i.i 0 (before_n (goal.at.After-from-disk c).In-loop-i)

disk-lt : (c : After-from-disk) → c.from-disk.result < 64
disk-lt c = omega (arith, disk_is c, c.requires.by_index c.loop-i.i (before_n (goal.at.After-from-disk c).In-loop-i))

pub loop-i-init : goal.loop-i-init
loop-i-init c = record { disks = refl; places = refl; counted = counted_none c.args.table.now; ranked = filled_none _ }

pub overflow_add-counts : goal.overflow_add-counts
overflow_add-counts c =
    let d = c.from-disk.result in
    omega (arith, c.loop-i.invariant.counted d (disk-lt (goal.at.overflow_add-counts c).After-from-disk), count-le (is_disk c.args.table.now d) c.loop-i.i)

pub loop-i-preserved : goal.loop-i-preserved
loop-i-preserved c =
    let table = c.args.table.now in
    let l = c.loop-i.invariant in
    let e = disk_is (goal.at.loop-i-preserved c).After-from-disk in
    let less = disk-lt (goal.at.loop-i-preserved c).After-from-disk in
    record {
      disks = simp length-set l.disks;
      places = simp length-set l.places;
      counted = rw e (counted_next table c.loop-i.i c.loop-i.counts (omega arith) l.counted);
      ranked = filled_more (rank_in table) c.loop-i.i c.loop-i.ranks _ l.places (l.counted _ less ∙ ap (λ (d : ℕ). count (is_disk table d) c.loop-i.i) e) l.ranked;
    }

pub returns : goal.returns
unfolding ranks_of
returns c =
    let l = c.loop-i in
    let table = c.args.table.now in
    let e : l.i ≡ c.args.n = omega (arith, length-take-le c.args.n table (omega arith)) in
    filled_per_entry _ (rank_in table) l.ranks l.invariant.places (subst (λ (n : ℕ). Filled (rank_in table) n l.ranks) e l.invariant.ranked)
