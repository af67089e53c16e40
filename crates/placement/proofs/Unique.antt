-- Two answers that one promise allows are equal, and so are two lists that a run may leave. Assumes nothing.
use mathlib.Core.Path.{◌≡◌, sym, ◌∙◌}
use mathlib.Core.List.{List}
use Prim.Native.Nat.{ℕ}
use Rattle.std.specs.Prelude.{Result}
use Rattle.design.specs.declared.Refusal.{Refusal}
use Rattle.design.specs.declared.Shelf.{Shelf}
use Rattle.design.specs.Refusals.{Verdict}
use Rattle.design.specs.Refusals.{first_broken}
use Rattle.placement.specs.declared.Spot.{Spot}
use Rattle.placement.specs.declared.LookUp.{LookUp}
use Rattle.placement.specs.declared.unchecked.Split.{Split}
use Rattle.placement.specs.declared.unchecked.Place.{Place}
use Rattle.placement.specs.Slots.{position_of, index_of}
use Rattle.placement.specs.Layout.{layout_in, stripes, addresses, offsets, split_of, place_in}
use Rattle.placement.specs.Entries.{ranks_of, entries_of}
use Rattle.placement.specs.Placed.{spot_of, placed, stands_at, looked_up, run_rules, Ran}

pub placed_unique : (h : Shelf) (a : ℕ) (r r' : Result Spot Refusal) → r ≡ placed h a → r' ≡ placed h a → r ≡ r'
placed_unique h a r r' p q = p ∙ sym q

pub looked_up_unique : (h : Shelf) (d o : ℕ) (r r' : Result LookUp Refusal) → r ≡ looked_up h d o → r' ≡ looked_up h d o → r ≡ r'
looked_up_unique h d o r r' p q = p ∙ sym q

pub run_verdict_unique : (h : Shelf) (first n : ℕ) (r r' : Verdict) → r ≡ first_broken (run_rules h first n) → r' ≡ first_broken (run_rules h first n) → r ≡ r'
run_verdict_unique h first n r r' p q = p ∙ sym q

pub ran_unique : (h : Shelf) (first : ℕ) (list : List Spot) (r r' : Verdict) (after after' : List Spot)
    → Ran h first list r after → Ran h first list r' after' → (r ≡ r') × (after ≡ after')
ran_unique h first list r r' after after' p q = (p.answers ∙ sym q.answers, p.leaves ∙ sym q.leaves)

-- ---- the functions for the layer above

pub stripes_unique : (h : Shelf) (r r' : ℕ) → r ≡ stripes (layout_in h) → r' ≡ stripes (layout_in h) → r ≡ r'
stripes_unique h r r' p q = p ∙ sym q

pub addresses_unique : (h : Shelf) (r r' : ℕ) → r ≡ addresses (layout_in h) → r' ≡ addresses (layout_in h) → r ≡ r'
addresses_unique h r r' p q = p ∙ sym q

pub offsets_unique : (h : Shelf) (r r' : ℕ) → r ≡ offsets (layout_in h) → r' ≡ offsets (layout_in h) → r ≡ r'
offsets_unique h r r' p q = p ∙ sym q

pub split_of_unique : (k b s : ℕ) (r r' : Split) → r ≡ split_of k b s → r' ≡ split_of k b s → r ≡ r'
split_of_unique k b s r r' p q = p ∙ sym q

pub place_in_unique : (h : Shelf) (at : Split) (x : ℕ) (r r' : Place) → r ≡ place_in (layout_in h) at x → r' ≡ place_in (layout_in h) at x → r ≡ r'
place_in_unique h at x r r' p q = p ∙ sym q

pub spot_unique : (h : Shelf) (a : ℕ) (r r' : Spot) → r ≡ spot_of (layout_in h) a → r' ≡ spot_of (layout_in h) a → r ≡ r'
spot_unique h a r r' p q = p ∙ sym q

pub stands_at_unique : (h : Shelf) (d o : ℕ) (r r' : LookUp) → r ≡ stands_at (layout_in h) d o → r' ≡ stands_at (layout_in h) d o → r ≡ r'
stands_at_unique h d o r r' p q = p ∙ sym q

pub position_of_unique : (parity j r r' : ℕ) → r ≡ position_of parity j → r' ≡ position_of parity j → r ≡ r'
position_of_unique parity j r r' p q = p ∙ sym q

pub index_of_unique : (parity x r r' : ℕ) → r ≡ index_of parity x → r' ≡ index_of parity x → r ≡ r'
index_of_unique parity x r r' p q = p ∙ sym q

pub ranks_unique : (table : List ℕ) (n : ℕ) (r r' : List ℕ) → r ≡ ranks_of table n → r' ≡ ranks_of table n → r ≡ r'
ranks_unique table n r r' p q = p ∙ sym q

pub entries_unique : (table : List ℕ) (n d : ℕ) (r r' : List ℕ) → r ≡ entries_of table n d → r' ≡ entries_of table n d → r ≡ r'
entries_unique table n d r r' p q = p ∙ sym q
