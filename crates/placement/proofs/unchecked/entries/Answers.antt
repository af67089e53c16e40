-- `placement::unchecked::entries` meets its contract: the entries found are those passed. Assumes nothing.
use mathlib.Core.Path.{◌≡◌, sym, subst, ◌∙◌}
use Prim.Native.Nat.{ℕ, ◌<◌}
use native.Mathlib.Omega.{arith}
use lib.ListN.{get_or, take}
use lib.Seq.{get_or-take, length-take-le}
use borrow.Author.Tests.{eq-eqb, ne_eqb}
use Rattle.design.specs.Count.{count, nth}
use Rattle.design.proofs.Reading.{Filled}
use Rattle.placement.specs.Entries.{is_disk, per_entry, entries_of}
use Rattle.placement.proofs.PerEntry.{filled_per_entry}
use Rattle.placement.proofs.Listing.{listing_none, listing_same, listing_more, listing_le}
use Rattle.placement.proofs.unchecked.entries.Goals as goal
use Rattle.placement.proofs.unchecked.entries.Goals.{In-loop-i, Then-disk-d, then-disk-d, else-disk-d}

pub loop-i-init : goal.loop-i-init
loop-i-init c = listing_none _ _

-- the entry is one of the first n
entry_is : (c : In-loop-i) → get_or (take c.args.n c.args.table.now) c.loop-i.i 0 ≡ get_or c.args.table.now c.loop-i.i 0
entry_is c = get_or-take c.args.n c.args.table.now c.loop-i.i 0 (omega (arith, length-take-le c.args.n c.args.table.now (omega arith)))

found-lt : (c : Then-disk-d) → c.loop-i.found < 2048
found-lt c =
    let l = c.loop-i in
    omega (arith, length-take-le c.args.n c.args.table.now (omega arith), listing_le _ _ l.i l.entries l.found l.invariant)

pub offset_bounds-entries-found : goal.offset_bounds-entries-found
offset_bounds-entries-found c = omega (arith, found-lt (goal.at.offset_bounds-entries-found c).Then-disk-d)

pub bounds-entries-found : goal.bounds-entries-found
bounds-entries-found c = found-lt (goal.at.bounds-entries-found c).Then-disk-d

pub overflow_add-found : goal.overflow_add-found
overflow_add-found c = omega (arith, found-lt (goal.at.overflow_add-found c).Then-disk-d)

pub loop-i-preserved : goal.loop-i-preserved
loop-i-preserved c =
    let l = c.loop-i in
    let e = entry_is (goal.at.loop-i-preserved c).In-loop-i in
    elim c.if-disk-d.branch [
      | then-disk-d w ↦ rw (w.entries-is, w.found-is) (listing_more _ _ l.i l.entries l.found l.invariant (eq-eqb _ _ (sym e ∙ w.if-disk-d.true)))
      | else-disk-d w ↦ rw (w.entries-is, w.found-is) (listing_same _ _ l.i l.entries l.found l.invariant (ne_eqb _ _ (rw e at w.if-disk-d.false)))
    ]

pub returns : goal.returns
unfolding entries_of
returns c =
    let l = c.loop-i in
    let e : l.i ≡ c.args.n = omega (arith, length-take-le c.args.n c.args.table.now (omega arith)) in
    let f = is_disk c.args.table.now c.args.d in
    let all : Filled (nth f l.i) (count f l.i) l.entries = subst (λ (m : ℕ). Filled (nth f l.i) m l.entries) l.invariant.found_is l.invariant.listed in
    subst (λ (n : ℕ). l.entries ≡ per_entry (count f n) (nth f n)) e (filled_per_entry (count f l.i) (nth f l.i) l.entries l.invariant.size all)
