-- What the loop of `run` makes of a list, and that all its turns make the list of the promise. Assumes nothing.
--     filled L a i list     the list with its first i records replaced by the places from address a on
use mathlib.Core.Path.{◌≡◌, refl, sym, ◌∙◌, ap}
use Prim.Native.Nat.{ℕ, zero, suc, ◌+◌, ◌<◌}
use native.Mathlib.Nat.{add-zero, add-suc, suc-add, not-suc-le-zero, le_of_suc-le-suc}
use mathlib.Core.List.{List, [], ◌∷◌}
use lib.ListN.{length, get_or, set}
use Rattle.std.specs.Prelude.{Ok, Err}
use Rattle.design.specs.declared.Shelf.{Shelf}
use Rattle.design.specs.Refusals.{Verdict}
use Rattle.placement.specs.declared.Spot.{Spot}
use Rattle.placement.specs.Layout.{Layout, layout_in}
use Rattle.placement.specs.Placed.{spot_of, spots_from, list_by}

-- ---- the list after i turns

abbrev pub filled : Layout → ℕ → ℕ → List Spot → List Spot
filled L a zero list = list
filled L a (suc i) [] = []
filled L a (suc i) (x ∷ list) = spot_of L a ∷ filled L (suc a) i list

pub filled-length : (L : Layout) (a i : ℕ) (list : List Spot) → length (filled L a i list) ≡ length list
filled-length L a zero list = refl
filled-length L a (suc i) [] = refl
filled-length L a (suc i) (x ∷ list) = ap suc (filled-length L (suc a) i list)

-- one turn more
pub filled_more : (L : Layout) (a i : ℕ) (list : List Spot) → i < length list → set (filled L a i list) i (spot_of L (a + i)) ≡ filled L a (suc i) list
filled_more L a i [] h = absurd (not-suc-le-zero h)
filled_more L a zero (x ∷ list) h = ap (λ (p : ℕ). spot_of L p ∷ list) (add-zero a)
filled_more L a (suc i) (x ∷ list) h =
    ap (λ (p : ℕ). spot_of L a ∷ set (filled L (suc a) i list) i (spot_of L p)) (add-suc a i ∙ sym (suc-add a i))
    ∙ ap (λ (ys : List Spot). spot_of L a ∷ ys) (filled_more L (suc a) i list (le_of_suc-le-suc h))

-- all turns
pub filled-all : (L : Layout) (a : ℕ) (list : List Spot) → filled L a (length list) list ≡ spots_from L a list
unfolding spots_from
filled-all L a [] = refl
filled-all L a (x ∷ list) = ap (λ (ys : List Spot). spot_of L a ∷ ys) (filled-all L (suc a) list)

-- ---- the list that a run leaves

spots_length : (L : Layout) (a : ℕ) (list : List Spot) → length (spots_from L a list) ≡ length list
unfolding spots_from
spots_length L a [] = refl
spots_length L a (x ∷ list) = ap suc (spots_length L (suc a) list)

pub list_by-length : (v : Verdict) (h : Shelf) (first : ℕ) (list : List Spot) → length (list_by v h first list) ≡ length list
unfolding list_by
list_by-length (Ok tt) h first list = spots_length (layout_in h) first list
list_by-length (Err x) h first list = refl

pub spots_at : (L : Layout) (a i : ℕ) (list : List Spot) (x : Spot) → i < length list → get_or (spots_from L a list) i x ≡ spot_of L (a + i)
unfolding spots_from
spots_at L a i [] x h = absurd (not-suc-le-zero h)
spots_at L a zero (y ∷ list) x h = ap (spot_of L) (sym (add-zero a))
spots_at L a (suc i) (y ∷ list) x h = spots_at L (suc a) i list x (le_of_suc-le-suc h) ∙ ap (spot_of L) (suc-add a i ∙ sym (add-suc a i))
