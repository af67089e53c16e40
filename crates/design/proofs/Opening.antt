-- Opening, rule by rule: what the first broken rule makes of a sheet. Assumes nothing.
use mathlib.Core.Path.{◌≡◌, refl, ap, ◌∙◌}
use mathlib.Core.Bool.{Bool, true, false}
use mathlib.Core.List.{List, [], ◌∷◌}
use Prim.Native.Nat.{ℕ, ◌*◌, ◌/◌, ◌≤◌, ◌<◌}
use native.Mathlib.Omega.{arith}
use lib.Dec.{leb, ltb, eqb}
use lib.ListN.{length, take}
use borrow.Author.Tests.{eq-eqb}
use Rattle.std.specs.Prelude.{Ok, Err}
use Rattle.std.specs.List.{All, list_all}
use Rattle.design.specs.declared.Shelf.{Shelf}
use Rattle.design.specs.declared.Loss.{Loss}
use Rattle.design.specs.declared.Refusal.TheVariants.{ShortSheet, OtherEdition, OutsideLimits, OtherLength, DiskOutside, DiskTwice, FillingSet, DisksUneven, PairsUneven}
use Rattle.design.specs.Count.{every}
use Rattle.design.specs.Refusals.{Rule, first_broken, answered}
use Rattle.design.specs.Tuples.{Design, in_table, before, shared, disks_below, none_twice, disks_even, pairs_even}
use Rattle.design.specs.Loss.{no_loss}
use Rattle.design.specs.inner.Planes.{row_of, counted}
use Rattle.design.specs.inner.Tally.{tuples_of, Tallied}
use Rattle.design.specs.Sheet.{edition_of, v_of, k_of, b_of, t_of, u_of, sheet_length, table_of, within_limits, filling_zero, sheet_rules, shelf_of, opened, HeaderRead}
use Rattle.design.proofs.Reading.{length-table}
use Rattle.design.proofs.Design.{shared_self}
use Rattle.design.proofs.Tallies.{counted_shared}
use Rattle.design.proofs.Used.{below_is, none_twice_is, few_are, all_below, disks_are, pairs_are}

-- ---- the header

module _ (s : List ℕ) where
  pub short : leb 6 (length s) ≡ false → Err ShortSheet ≡ opened s
  unfolding opened sheet_rules first_broken answered
  short e = rw e

  pub other_edition : leb 6 (length s) ≡ true → eqb (edition_of s) 1 ≡ false → Err OtherEdition ≡ opened s
  unfolding opened sheet_rules first_broken answered
  other_edition long e = rw (long, e)

  pub outside_limits : leb 6 (length s) ≡ true → eqb (edition_of s) 1 ≡ true → within_limits (v_of s) (k_of s) (b_of s) (t_of s) (u_of s) ≡ false
      → Err OutsideLimits ≡ opened s
  unfolding opened sheet_rules first_broken answered
  outside_limits long one e = rw (long, one, e)

  pub other_length : leb 6 (length s) ≡ true → eqb (edition_of s) 1 ≡ true → within_limits (v_of s) (k_of s) (b_of s) (t_of s) (u_of s) ≡ true
      → eqb (length s) (sheet_length (b_of s * k_of s)) ≡ false → Err OtherLength ≡ opened s
  unfolding opened sheet_rules first_broken answered
  other_length long one within e = rw (long, one, within, e)

-- the limits, by what was read
pub limits_read : (s : List ℕ) {v k b T u : ℕ} → v ≡ v_of s → k ≡ k_of s → b ≡ b_of s → T ≡ t_of s → u ≡ u_of s
    → within_limits v k b T u ≡ within_limits (v_of s) (k_of s) (b_of s) (t_of s) (u_of s)
limits_read s pv pk pb p_t pu = rw (pv, pk, pb, p_t, pu)

-- ---- the table, of a sheet that keeps rules 1 to 4

-- the design as it was read
abbrev pub read_design : List ℕ → ℕ → ℕ → ℕ → Design
read_design s v k b = in_table v k b (table_of s (b * k))

unfoldable table_rules : Design → Bool → List Rule
table_rules D filling =
    record { refusal = DiskOutside; kept = disks_below D }
    ∷ record { refusal = DiskTwice; kept = none_twice D }
    ∷ record { refusal = FillingSet; kept = filling }
    ∷ record { refusal = DisksUneven; kept = disks_even D (before D D.b 0) }
    ∷ record { refusal = PairsUneven; kept = pairs_even D (shared D D.b 1 0) }
    ∷ []

module _ (s : List ℕ) (v k b T u : ℕ) (h : HeaderRead s v k b T u) where
  header_kept : opened s ≡ answered (first_broken (table_rules (read_design s v k b) (filling_zero s (b * k)))) (shelf_of s)
  unfolding opened sheet_rules first_broken table_rules
  header_kept =
      let within : within_limits (v_of s) (k_of s) (b_of s) (t_of s) (u_of s) ≡ true =
      rw (← h.v_is, ← h.k_is, ← h.b_is, ← h.T_is, ← h.u_is) h.limits in
      let exact : eqb (length s) (sheet_length (b_of s * k_of s)) ≡ true =
      rw (← h.k_is, ← h.b_is) (eq-eqb _ _ h.exact) in
      rw (h.long, h.edition, within, exact, h.v_is, h.k_is, h.b_is)

  -- the shelf, by what was read
  pub shelf-read : {r lambda : ℕ} {table : List ℕ} {loss : Loss} → table ≡ table_of s (b * k) → r ≡ before (read_design s v k b) b 0
      → lambda ≡ shared (read_design s v k b) b 1 0 → loss ≡ no_loss
      → ◌≡◌ {A = Shelf} (record { v = v; k = k; b = b; T = T; u = u; r = r; lambda = lambda; table = table; loss = loss }) (shelf_of s)
  unfolding shelf_of
  shelf-read p q l n = rw (p, q, l, n, h.v_is, h.k_is, h.b_is, h.T_is, h.u_is)

  pub disk_outside : disks_below (read_design s v k b) ≡ false → Err DiskOutside ≡ opened s
  unfolding first_broken table_rules answered
  disk_outside e = rw (header_kept, e)

  module _ (below : disks_below (read_design s v k b) ≡ true) where
    pub disk_twice : none_twice (read_design s v k b) ≡ false → Err DiskTwice ≡ opened s
    unfolding first_broken table_rules answered
    disk_twice e = rw (header_kept, below, e)

    module _ (once : none_twice (read_design s v k b) ≡ true) where
      pub filling_set : filling_zero s (b * k) ≡ false → Err FillingSet ≡ opened s
      unfolding first_broken table_rules answered
      filling_set e = rw (header_kept, below, once, e)

      module _ (zero : filling_zero s (b * k) ≡ true) where
        pub disks_uneven : disks_even (read_design s v k b) (before (read_design s v k b) b 0) ≡ false → Err DisksUneven ≡ opened s
        unfolding first_broken table_rules answered
        disks_uneven e = rw (header_kept, below, once, zero, e)

        module _ (even : disks_even (read_design s v k b) (before (read_design s v k b) b 0) ≡ true) where
          pub pairs_uneven : pairs_even (read_design s v k b) (shared (read_design s v k b) b 1 0) ≡ false → Err PairsUneven ≡ opened s
          unfolding first_broken table_rules answered
          pairs_uneven e = rw (header_kept, below, once, zero, even, e)

          pub accepted : pairs_even (read_design s v k b) (shared (read_design s v k b) b 1 0) ≡ true → Ok (shelf_of s) ≡ opened s
          unfolding first_broken table_rules answered
          accepted e = rw (header_kept, below, once, zero, even, e)

-- ---- the tests as the code makes them, of the places in use of the table that was read

module _ (s : List ℕ) (v k b : ℕ) (table : List ℕ) (e : table ≡ table_of s (b * k)) (k_least : 2 ≤ k) (places : b * k ≤ 2048) where
  design_is : in_table v k b table ≡ read_design s v k b
  design_is = ap (in_table v k b) e

  pub room : b * k ≤ length table
  room = omega (arith, ap length e, length-table s (b * k))

  pub below_read : {t : Bool} → t ≡ list_all (λ d. ltb d v) (take (b * k) table) → t ≡ disks_below (read_design s v k b)
  below_read p = below_is v k b table _ k_least room refl p ∙ ap disks_below design_is

  pub once-read : {t : Bool} → t ≡ none_twice (tuples_of k (take (b * k) table)) → t ≡ none_twice (read_design s v k b)
  once-read p = none_twice_is v k b table _ k_least room refl p ∙ ap none_twice design_is

  -- what the tally asks of the table
  pub few_read : (0 < k) × (length (take (b * k) table) / k ≤ 1024)
  few_read = few_are v k b table _ k_least room refl places

  pub below_side : v ≤ 64 → disks_below (read_design s v k b) ≡ true → All (λ d. d < 64) (take (b * k) table)
  below_side v_most p = all_below v k b table _ k_least room refl v_most (ap disks_below design_is ∙ p)

  module _ (v_most : v ≤ 64) (counts : List (List ℕ)) (tallied : Tallied (tuples_of k (take (b * k) table)) (length (take (b * k) table) / k) counts) where
    pub disks_read : {t : Bool} (r : ℕ) → t ≡ every v (λ d. eqb (counted (row_of counts d) d) r) → t ≡ disks_even (read_design s v k b) r
    disks_read r p = disks_are v k b table _ k_least room refl v_most counts tallied r p ∙ ap (λ (D : Design). disks_even D r) design_is

    pub pairs_read : {t : Bool} (lambda : ℕ) → t ≡ every v (λ d. every d (λ e. eqb (counted (row_of counts d) e) lambda))
        → t ≡ pairs_even (read_design s v k b) lambda
    pairs_read lambda p = pairs_are v k b table _ k_least room refl v_most counts tallied lambda p ∙ ap (λ (D : Design). pairs_even D lambda) design_is

    shared-read : (d e : ℕ) → d < 64 → counted (row_of counts d) e ≡ shared (read_design s v k b) b d e
    shared-read d e hd = counted_shared v k b table (omega arith) room counts v_most tallied d e hd ∙ ap (λ (D : Design). shared D b d e) design_is

    pub r_read : counted (row_of counts 0) 0 ≡ before (read_design s v k b) b 0
    r_read = shared-read 0 0 (omega arith) ∙ shared_self (read_design s v k b) b 0

    pub lambda_read : counted (row_of counts 1) 0 ≡ shared (read_design s v k b) b 1 0
    lambda_read = shared-read 1 0 (omega arith)
