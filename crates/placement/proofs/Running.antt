-- When a run is accepted, and what it leaves of its list then and else. Assumes nothing.
use mathlib.Core.Path.{◌≡◌, sym, ap, ◌∙◌}
use mathlib.Core.Logic.{◌↔◌}
use mathlib.Core.Bool.{true, false}
use mathlib.Core.List.{List}
use Prim.Native.Nat.{ℕ, ◌+◌, ◌≤◌, ◌<◌}
use native.Mathlib.Omega.{arith}
use lib.Dec.{leb}
use lib.ListN.{length, get_or}
use borrow.Author.Tests.{le-leb, leb-true, lt-leb}
use Rattle.std.specs.Prelude.{Ok, Err}
use Rattle.design.specs.declared.Refusal.{Refusal}
use Rattle.design.specs.declared.Refusal.TheVariants.{NotAShelf, OutOfRange}
use Rattle.design.specs.declared.Shelf.{Shelf}
use Rattle.design.specs.Refusals.{Verdict}
use Rattle.design.specs.Refusals.{first_broken}
use Rattle.design.specs.Shelf.{is_shelf}
use Rattle.placement.specs.declared.Spot.{Spot}
use Rattle.placement.specs.Layout.{layout_in, addresses}
use Rattle.placement.specs.Placed.{spot_of, placed, run_rules, list_by, Ran}
use Rattle.placement.proofs.Accepted.{Judged, accepted, refused, accept, judged, placed_at}
use Rattle.placement.proofs.Lists.{list_by-length, spots_at}

-- ---- the verdict

-- a run of n records from first on is accepted
pub record Runs (h : Shelf) (first n : ℕ) : Type 0 where
  pub shelf : is_shelf h ≡ true
  pub range : first + n ≤ addresses (layout_in h)

module _ (h : Shelf) (first n : ℕ) where
  pub runs_accepted : Runs h first n → first_broken (run_rules h first n) ≡ (Ok tt)
  unfolding run_rules
  runs_accepted w = accept h w.shelf (le-leb (first + n) (addresses (layout_in h)) w.range)

  pub run_not_a-shelf : is_shelf h ≡ false → first_broken (run_rules h first n) ≡ Err NotAShelf
  unfolding first_broken run_rules
  run_not_a-shelf e = rw e

  pub run_out_of_range : is_shelf h ≡ true → addresses (layout_in h) < first + n → first_broken (run_rules h first n) ≡ Err OutOfRange
  unfolding first_broken run_rules
  run_out_of_range e l = rw (e, lt-leb (first + n) (addresses (layout_in h)) l)

  pub accepted_runs : first_broken (run_rules h first n) ≡ (Ok tt) → Runs h first n
  unfolding run_rules
  accepted_runs a = go (judged h (leb (first + n) (addresses (layout_in h))))
    where
      go : Judged h (leb (first + n) (addresses (layout_in h))) → Runs h first n
      go (accepted e t) = record { shelf = e; range = leb-true (first + n) (addresses (layout_in h)) t }
      go (refused x v) = let z : ◌≡◌ {A = ℕ} 0 1 = cc in absurd (omega arith)

-- accepted exactly where the value is a shelf and the run ends at most at N
pub run_accepts_exactly : (h : Shelf) (first n : ℕ) → (first_broken (run_rules h first n) ≡ (Ok tt)) ↔ Runs h first n
run_accepts_exactly h first n = (accepted_runs h first n, runs_accepted h first n)

-- so an empty list is, for a first address up to N
pub empty_run : (h : Shelf) (first : ℕ) → is_shelf h ≡ true → first ≤ addresses (layout_in h) → first_broken (run_rules h first 0) ≡ (Ok tt)
empty_run h first e l = runs_accepted h first 0 (record { shelf = e; range = omega arith })

-- ---- the list

module _ (h : Shelf) (first : ℕ) (list after : List Spot) where
  pub ran_length : (r : Verdict) → Ran h first list r after → length after ≡ length list
  ran_length r w = ap length w.leaves ∙ list_by-length (first_broken (run_rules h first (length list))) h first list

  -- a refused run leaves the list
  pub ran_refused : (x : Refusal) → Ran h first list (Err x) after → after ≡ list
  unfolding list_by
  ran_refused x w = rw (sym w.answers) at w.leaves

  module _ (w : Ran h first list (Ok tt) after) (i : ℕ) (l : i < length list) (x : Spot) where
    -- record i of an accepted run is that of address first + i
    pub ran_spot : get_or after i x ≡ spot_of (layout_in h) (first + i)
    unfolding list_by
    ran_spot = rw (w.leaves, sym w.answers) (spots_at (layout_in h) first i list x l)

    -- which placing gives too
    pub ran_placed : placed h (first + i) ≡ Ok (get_or after i x)
    ran_placed =
        let a = accepted_runs h first (length list) (sym w.answers) in
        placed_at h (first + i) a.shelf (omega (arith, a.range, l)) ∙ ap Ok (sym ran_spot)
