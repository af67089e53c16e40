-- The tests as the code makes them, of the places in use, which it lends as a slice: they are those of the table's design. Assumes nothing.
use mathlib.Core.Path.{◌≡◌, ◌∙◌}
use mathlib.Core.Bool.{Bool, true}
use mathlib.Core.List.{List}
use Prim.Native.Nat.{ℕ, ◌*◌, ◌/◌, ◌≤◌, ◌<◌}
use native.Mathlib.Omega.{arith}
use lib.Dec.{ltb, eqb}
use lib.ListN.{length, take}
use Rattle.std.specs.List.{All, list_all}
use Rattle.design.specs.Count.{every}
use Rattle.design.specs.Tuples.{in_table, disks_below, none_twice, disks_even, pairs_even}
use Rattle.design.specs.inner.Planes.{row_of, counted}
use Rattle.design.specs.inner.Tally.{tuples_of, Tallied}
use Rattle.design.proofs.Tests.{below_part, below_all}
use Rattle.design.proofs.Parts.{none_twice_part, few_tuples}
use Rattle.design.proofs.Tallies.{even_disks, even_pairs}

module _ (v k b : ℕ) (table disks : List ℕ) (k_least : 2 ≤ k) (room : b * k ≤ length table) (e : disks ≡ take (b * k) table) where
  some : 0 < k
  some = omega arith

  pub below_is : {x : Bool} → x ≡ list_all (λ d. ltb d v) disks → x ≡ disks_below (in_table v k b table)
  below_is p = p ∙ rw e (below_part v k b table room)

  pub none_twice_is : {x : Bool} → x ≡ none_twice (tuples_of k disks) → x ≡ none_twice (in_table v k b table)
  none_twice_is p = p ∙ rw e (none_twice_part v k b table some room)

  -- what the tally asks of them
  pub few_are : b * k ≤ 2048 → (0 < k) × (length disks / k ≤ 1024)
  few_are places = (some, rw e (few_tuples v k b table some room k_least places))

  pub all_below : v ≤ 64 → disks_below (in_table v k b table) ≡ true → All (λ d. d < 64) disks
  all_below few p = rw e (below_all v k b table few room p)

  module _ (v_most : v ≤ 64) (counts : List (List ℕ)) (t : Tallied (tuples_of k disks) (length disks / k) counts) where
    pub disks_are : {x : Bool} (r : ℕ) → x ≡ every v (λ d. eqb (counted (row_of counts d) d) r) → x ≡ disks_even (in_table v k b table) r
    disks_are r p = p ∙ even_disks v k b table some room counts v_most (rw e at t) r

    pub pairs_are : {x : Bool} (lambda : ℕ) → x ≡ every v (λ d. every d (λ e. eqb (counted (row_of counts d) e) lambda))
        → x ≡ pairs_even (in_table v k b table) lambda
    pairs_are lambda p = p ∙ even_pairs v k b table some room counts v_most (rw e at t) lambda
