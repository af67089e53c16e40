-- Which number each call gives, as numerals in the order in which they are tried (document 01, "Numbers a caller can get"). Assumes
-- nothing.
use mathlib.Core.Path.{◌≡◌, ap, ◌∙◌}
use mathlib.Core.Bool.{not, ◌&&◌}
use mathlib.Core.List.{List, [], ◌∷◌}
use Prim.Native.Nat.{ℕ, ◌+◌}
use lib.Dec.{leb, ltb}
use lib.ListN.{length}
use Rattle.design.specs.declared.Shelf.{Shelf}
use Rattle.design.specs.Refusals.{Verdict, number_given}
use Rattle.design.specs.Refusals.{number, first_broken}
use Rattle.design.specs.Shelf.{is_shelf}
use Rattle.design.proofs.Refused.{number_answered}
use Rattle.design.proofs.Numerals.{case, first_of, rules_give}
use Rattle.placement.specs.declared.Spot.{Spot}
use Rattle.placement.specs.Layout.{layout_in, addresses, offsets}
use Rattle.placement.specs.Placed.{place_rules, placed, look_up_rules, looked_up, run_rules, Ran}

-- ---- placing

pub place_gives : (h : Shelf) (a : ℕ) → number_given (placed h a)
    ≡ first_of (case 10 (not (is_shelf h)) ∷ case 12 (not (ltb a (addresses (layout_in h)))) ∷ [])
unfolding placed place_rules number
place_gives h a = number_answered (first_broken (place_rules h a)) _ ∙ rules_give (place_rules h a)

-- ---- looking up

pub look_up_gives : (h : Shelf) (d o : ℕ) → number_given (looked_up h d o)
    ≡ first_of (case 10 (not (is_shelf h)) ∷ case 12 (not (ltb d h.v && ltb o (offsets (layout_in h)))) ∷ [])
unfolding looked_up look_up_rules number
look_up_gives h d o = number_answered (first_broken (look_up_rules h d o)) _ ∙ rules_give (look_up_rules h d o)

-- ---- running

pub run_gives : (h : Shelf) (first : ℕ) (list after : List Spot) (answer : Verdict) → Ran h first list answer after
    → number_given answer ≡ first_of (case 10 (not (is_shelf h)) ∷ case 12 (not (leb (first + length list) (addresses (layout_in h)))) ∷ [])
unfolding run_rules number
run_gives h first list after answer R = ap number_given R.answers ∙ rules_give (run_rules h first (length list))
