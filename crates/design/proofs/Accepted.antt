-- A sheet is accepted exactly when it is well formed and its design balanced, and the shelf then has b·k = v·r and
-- lambda·(v-1) = r·(k-1). Assumes nothing.
use mathlib.Core.Path.{◌≡◌, sym, ap, ◌∙◌, subst}
use mathlib.Core.Logic.{◌↔◌, ◌⊎◌, inl, inr, ◌≢◌}
use mathlib.Core.Bool.{Bool, true, false}
use mathlib.Core.List.{List}
use Prim.Native.Nat.{ℕ, ◌+◌, ◌-◌, ◌*◌, ◌≤◌, ◌<◌}
use native.Mathlib.Omega.{arith}
use lib.Dec.{leb, ltb, eqb}
use lib.ListN.{length}
use borrow.Author.Tests.{lt-ltb, ltb-true, ltb-false, le-leb, leb-true, eq-eqb, eqb-true}
use Rattle.std.specs.Prelude.{Ok}
use Rattle.fields.specs.Field.{bit_at, field}
use Rattle.fields.proofs.Laws.{field_zero}
use Rattle.design.specs.declared.Shelf.{Shelf}
use Rattle.design.specs.Count.{every}
use Rattle.design.specs.Refusals.{number, first_broken, verdict}
use Rattle.design.specs.Tuples.{Design, before, shared, Balanced, disks_below, none_twice, disks_even, pairs_even}
use Rattle.design.specs.Sheet.{edition_of, v_of, k_of, b_of, t_of, u_of, design_of, sheet_length, within_limits, filling_zero, sheet_rules, opened, shelf_of, WellFormed, opened_shelf}
use Rattle.design.proofs.Counting.{decided, every-at, every_of}
use Rattle.design.proofs.Tests.{limits, disks_even_lem, pairs_even_lem}
use Rattle.design.proofs.Twice.{twice}
use Rattle.design.proofs.Lowest.{kept_of, accepts_exactly}
use Rattle.design.proofs.Refused.{sheet_rise, opened-verdict, accepted_shelf}
use Rattle.design.proofs.Design.{DisksBelow, shared_sym, places, spread}

-- ---- the rules in words; numbers 3, 6 and 8 are in Tests

-- 5
pub disks_below_lem : (D : Design) → (disks_below D ≡ true) ↔ DisksBelow D
unfolding disks_below
disks_below_lem D = (
  λ e q p hq hp. ltb-true (D.disk q p) D.v (every-at D.k (below q) (every-at D.b (λ q. every D.k (below q)) e q hq) p hp),
  λ h. every_of D.b (λ q. every D.k (below q)) (λ q hq. every_of D.k (below q) (λ p hp. lt-ltb (D.disk q p) D.v (h q p hq hp))),
)
  where
    below : ℕ → ℕ → Bool
    below q p = ltb (D.disk q p) D.v

-- 7
zero_between : (s : List ℕ) (from to : ℕ) → (field s from (to - from) ≡ 0) ↔ ((i : ℕ) → from ≤ i → i < to → bit_at s i ≡ 0)
zero_between s from to = (bits, λ h. (field_zero s from (to - from)).1 (λ j m. h (from + j) (omega arith) (omega arith)))
  where
    bits : field s from (to - from) ≡ 0 → (i : ℕ) → from ≤ i → i < to → bit_at s i ≡ 0
    bits e i l h =
        let at : i ≡ from + (i - from) = omega arith in
        ap (bit_at s) at ∙ (field_zero s from (to - from)).0 e (i - from) (omega arith)

pub filling_zero_lem : (s : List ℕ) (n : ℕ) → (filling_zero s n ≡ true) ↔ ((i : ℕ) → 48 + 6 * n ≤ i → i < 8 * length s → bit_at s i ≡ 0)
unfolding filling_zero
filling_zero_lem s n =
    let zero = zero_between s (48 + 6 * n) (8 * length s) in
    (λ e. zero.0 (eqb-true _ 0 e), λ h. eq-eqb _ 0 (zero.1 h))

-- 9
pub pairs_alike : (D : Design) (lambda : ℕ) → (pairs_even D lambda ≡ true) ↔ ((d e : ℕ) → d < D.v → e < D.v → d ≢ e → shared D D.b d e ≡ lambda)
pairs_alike D lambda = (
  λ t d e hd he ne. go d e hd he ne ((pairs_even_lem D lambda).0 t) (decided (ltb e d)),
  λ h. (pairs_even_lem D lambda).1 (λ d e hd l. h d e hd (omega arith) (omega arith)),
)
  where
    go : (d e : ℕ) → d < D.v → e < D.v → d ≢ e → ((d e : ℕ) → d < D.v → e < d → shared D D.b d e ≡ lambda)
        → (ltb e d ≡ true) ⊎ (ltb e d ≡ false) → shared D D.b d e ≡ lambda
    go d e hd he ne h (inl l) = h d e hd (ltb-true e d l)
    go d e hd he ne h (inr l) = shared_sym D D.b d e ∙ h e d he (omega (arith, ltb-false e d l))

-- ---- all rules kept

-- r and lambda, as opening counts them
abbrev r_of : List ℕ → ℕ
r_of s = before (design_of s) (b_of s) 0

abbrev lambda_of : List ℕ → ℕ
lambda_of s = shared (design_of s) (b_of s) 1 0

record Kept (s : List ℕ) : Type 0 where
  header : leb 6 (length s) ≡ true
  edition : eqb (edition_of s) 1 ≡ true
  limits : within_limits (v_of s) (k_of s) (b_of s) (t_of s) (u_of s) ≡ true
  exact : eqb (length s) (sheet_length (b_of s * k_of s)) ≡ true
  below : disks_below (design_of s) ≡ true
  different : none_twice (design_of s) ≡ true
  filling : filling_zero s (b_of s * k_of s) ≡ true
  often : disks_even (design_of s) (r_of s) ≡ true
  paired : pairs_even (design_of s) (lambda_of s) ≡ true

accepted_kept : (s : List ℕ) → verdict (opened s) ≡ Ok tt → Kept s
unfolding kept_of sheet_rules number
accepted_kept s e =
    let kept = (accepts_exactly (sheet_rules s) (sheet_rise s)).0 (sym (opened-verdict s) ∙ e) in
    record {
      header = kept 1;
      edition = kept 2;
      limits = kept 3;
      exact = kept 4;
      below = kept 5;
      different = kept 6;
      filling = kept 7;
      often = kept 8;
      paired = kept 9;
    }

kept_accepted : (s : List ℕ) → Kept s → verdict (opened s) ≡ Ok tt
unfolding first_broken sheet_rules
kept_accepted s k =
    opened-verdict s
    ∙ rw (k.header, k.edition, k.limits, k.exact, k.below, k.different, k.filling, k.often, k.paired)

-- ---- accepted exactly when well formed and balanced

kept_well_formed : (s : List ℕ) → Kept s → WellFormed s
kept_well_formed s k =
    record {
      header = leb-true 6 (length s) k.header;
      edition = eqb-true (edition_of s) 1 k.edition;
      limits = (limits (v_of s) (k_of s) (b_of s) (t_of s) (u_of s)).0 k.limits;
      exact = eqb-true (length s) (sheet_length (b_of s * k_of s)) k.exact;
      below = (disks_below_lem (design_of s)).0 k.below;
      filling = (filling_zero_lem s (b_of s * k_of s)).0 k.filling;
    }

kept_balanced : (s : List ℕ) → Kept s → Balanced (design_of s) (r_of s) (lambda_of s)
kept_balanced s k =
    record {
      different = (twice (design_of s)).0 k.different;
      often = (disks_even_lem (design_of s) (r_of s)).0 k.often;
      paired = (pairs_alike (design_of s) (lambda_of s)).0 k.paired;
    }

well_formed_kept : (s : List ℕ) (r lambda : ℕ) → WellFormed s → Balanced (design_of s) r lambda → Kept s
well_formed_kept s r lambda w y =
    let D = design_of s in
    let first : 1 < v_of s = omega (arith, w.limits.v_least) in
    let zeroth : 0 < v_of s = omega arith in
    let apart : ◌≢◌ {A = ℕ} 1 0 = omega arith in
    record {
      header = le-leb 6 (length s) w.header;
      edition = eq-eqb (edition_of s) 1 w.edition;
      limits = (limits (v_of s) (k_of s) (b_of s) (t_of s) (u_of s)).1 w.limits;
      exact = eq-eqb (length s) (sheet_length (b_of s * k_of s)) w.exact;
      below = (disks_below_lem D).1 w.below;
      different = (twice D).1 y.different;
      filling = (filling_zero_lem s (b_of s * k_of s)).1 w.filling;
      often = (disks_even_lem D (r_of s)).1 (λ d h. y.often d h ∙ sym (y.often 0 zeroth));
      paired = (pairs_alike D (lambda_of s)).1 (λ d e hd he ne. y.paired d e hd he ne ∙ sym (y.paired 1 0 first zeroth apart));
    }

pub accepted_exactly : (s : List ℕ) → (verdict (opened s) ≡ Ok tt) ↔ (WellFormed s × ((r : ℕ) × (lambda : ℕ) × Balanced (design_of s) r lambda))
accepted_exactly s = (
  λ e. let k = accepted_kept s e in (kept_well_formed s k, (r_of s, lambda_of s, kept_balanced s k)),
  λ h. kept_accepted s (well_formed_kept s h.1.0 h.1.1 h.0 h.1.2),
)

-- ---- the shelf of an accepted sheet

module _ (s : List ℕ) (e : verdict (opened s) ≡ Ok tt) where
  pub accepted_well_formed : WellFormed s
  accepted_well_formed = ((accepted_exactly s).0 e).0

  pub balanced_as_counted : Balanced (design_of s) (shelf_of s).r (shelf_of s).lambda
  unfolding shelf_of
  balanced_as_counted = kept_balanced s (accepted_kept s e)

  pub sheet_places : (opened_shelf s).b * (opened_shelf s).k ≡ (opened_shelf s).v * (opened_shelf s).r
  unfolding shelf_of
  sheet_places =
      subst (λ (h : Shelf). h.b * h.k ≡ h.v * h.r) (sym (accepted_shelf s e))
      (places (design_of s) accepted_well_formed.below (shelf_of s).r (shelf_of s).lambda balanced_as_counted)

  pub sheet_spread : (opened_shelf s).lambda * ((opened_shelf s).v - 1) ≡ (opened_shelf s).r * ((opened_shelf s).k - 1)
  unfolding shelf_of
  sheet_spread =
      let l = accepted_well_formed.limits in
      subst (λ (h : Shelf). h.lambda * (h.v - 1) ≡ h.r * (h.k - 1)) (sym (accepted_shelf s e))
      (spread (design_of s) accepted_well_formed.below (shelf_of s).r (shelf_of s).lambda balanced_as_counted (omega (arith, l.v_least)) (omega (arith, l.k_least)))
