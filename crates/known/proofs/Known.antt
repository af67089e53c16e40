-- Every case of the table has its known answer: one statement, computed from the definitions. That a sheet's shelf passes rule 10
-- is the theorem on accepted sheets. Assumes nothing.
use mathlib.Core.Path.{◌≡◌, refl, ap, ap₂, ◌∙◌}
use mathlib.Core.Bool.{◌&&◌}
use mathlib.Core.List.{List, [], ◌∷◌, map}
use Prim.Native.Nat.{ℕ}
use lib.Dec.{ltb}
use lib.ListN.{get_or}
use Rattle.std.specs.Prelude.{Ok, Err}
use Rattle.fields.specs.Field.{field, bit_at}
use Rattle.design.specs.Refusals.{Verdict, answered, verdict}
use Rattle.design.specs.declared.Refusal.TheVariants.{DisksUneven, PairsUneven}
use Rattle.design.specs.Count.{count, every, nth, list_from}
use Rattle.design.specs.Refusals.{number, first_broken}
use Rattle.design.specs.Tuples.{has, holds, before, shared, disks_below, again, none_twice, disks_even, pairs_even}
use Rattle.design.specs.Sheet.{sheet_length, table_of, within_limits, filling_zero, sheet_rules, shelf_of, opened}
use Rattle.design.proofs.Refused.{accepted_shelf}
use Rattle.design.proofs.RoundTrip.{opened_is_shelf}
use Rattle.placement.specs.Layout.{layout_in, addresses, offsets, split_of, offset_of, tuple_at, stripe_at, position_at}
use Rattle.placement.specs.Placed.{range_rule, spot_of, place_rules, placed, stands_at, look_up_rules, looked_up}
use Rattle.known.specs.Table.{Case, Answer, sheet_a, sheet_a₂, sheet_b, two_pairs, one_pair, of_placing, of_look_up, of_verdict, answer, address, place, sheet, table}

-- ---- an accepted sheet answers by its own layout

module _ (s : List ℕ) (e : verdict (opened s) ≡ Ok tt) where
  placing : (a : ℕ) → answer (address s a) ≡ of_placing (answered (first_broken (range_rule (ltb a (addresses (layout_in (shelf_of s)))) ∷ [])) (spot_of (layout_in (shelf_of s)) a))
  unfolding answer placed place_rules first_broken
  placing a = rw (opened_is_shelf s e, accepted_shelf s e)

  looking_up : (d o : ℕ) → answer (place s d o)
      ≡ of_look_up (answered (first_broken (range_rule (ltb d (shelf_of s).v && ltb o (offsets (layout_in (shelf_of s)))) ∷ [])) (stands_at (layout_in (shelf_of s)) d o))
  unfolding answer looked_up look_up_rules first_broken
  looking_up d o = rw (opened_is_shelf s e, accepted_shelf s e)

judging : (s : List ℕ) → answer (sheet s) ≡ of_verdict (verdict (opened s))
unfolding answer
judging s = refl

-- ---- the sheets

verdicts : map (λ (s : List ℕ). verdict (opened s)) (sheet_a ∷ sheet_a₂ ∷ sheet_b ∷ two_pairs ∷ one_pair ∷ [])
    ≡ Ok tt ∷ Ok tt ∷ Ok tt ∷ Err PairsUneven ∷ Err DisksUneven ∷ []
unfolding sheet_a sheet_a₂ sheet_b two_pairs one_pair field bit_at count every list_from first_broken has holds before shared disks_below again none_twice disks_even pairs_even sheet_length table_of within_limits filling_zero sheet_rules opened answered
verdicts = refl

abbrev nth_verdict : ℕ → List Verdict → Verdict
nth_verdict i l = get_or l i (Ok tt)

accepted_a : verdict (opened sheet_a) ≡ Ok tt
accepted_a = ap (nth_verdict 0) verdicts

-- ---- the table

row : {x y : Answer} {l m : List Answer} → x ≡ y → l ≡ m → x ∷ l ≡ y ∷ m
row p q = ap₂ (λ (x : Answer) (l : List Answer). x ∷ l) p q

pub known : map (λ (c : Case). answer c.question) table ≡ map (λ (c : Case). c.known) table
unfolding table number field bit_at count nth list_from first_broken has holds before shared table_of shelf_of split_of offset_of tuple_at stripe_at position_at spot_of answered stands_at sheet_a sheet_a₂ sheet_b
known =
    row (placing sheet_a accepted_a 0)
    (row (placing sheet_a accepted_a 3)
    (row (placing sheet_a accepted_a 7)
    (row (placing sheet_a accepted_a 9)
    (row (placing sheet_a accepted_a 15)
    (row (placing sheet_a accepted_a 16)
    (row (placing sheet_a accepted_a 23)
    (row (placing sheet_a accepted_a 24)
    (row (placing sheet_a₂ (ap (nth_verdict 1) verdicts) 24)
    (row (looking_up sheet_a accepted_a 3 2)
    (row (placing sheet_b (ap (nth_verdict 2) verdicts) 1)
    (row (judging two_pairs ∙ ap of_verdict (ap (nth_verdict 3) verdicts))
    (row (judging one_pair ∙ ap of_verdict (ap (nth_verdict 4) verdicts))
    refl))))))))))))
