-- The units of a stripe by their use and by their positions: each of the two gives the other. Assumes nothing.
use mathlib.Core.Path.{◌≡◌, refl, sym, ap, ◌∙◌}
use mathlib.Core.Bool.{true, false, cond}
use Prim.Native.Nat.{ℕ, ◌-◌, ◌≤◌, ◌<◌}
use native.Mathlib.Omega.{arith}
use lib.Dec.{ltb, eqb}
use borrow.Author.Tests.{lt-ltb, ltb-true, le-ltb, ltb-false, eq-eqb, eqb-true, ne_eqb, eqb-false}
use Rattle.design.specs.declared.Shelf.{Shelf}
use Rattle.design.specs.Shelf.{is_shelf}
use Rattle.placement.specs.Slots.{position_of, index_of as data_of}
use Rattle.placement.specs.Layout.{layout_in, parity_of}
use Rattle.placement.proofs.Even.{Even, even_shelf}
use Rattle.placement.proofs.Stepping.{position_not_parity, index_of_position, position_of_index, index_below}
use Rattle.placement.proofs.Position.{parity-lt, position-lt}
use Rattle.parity.specs.Stripe.{position_in}
use Rattle.parity.proofs.Cases.{cases}

-- which unit of stripe s stands at position p
abbrev pub index_of : Shelf → ℕ → ℕ → ℕ
index_of h s p = cond (eqb p (parity_of (layout_in h) s)) (h.k - 1) (data_of (parity_of (layout_in h) s) p)

pub position_data : (h : Shelf) (s i : ℕ) → i < h.k - 1 → position_in h s i ≡ position_of (parity_of (layout_in h) s) i
position_data h s i l = rw (lt-ltb i (h.k - 1) l)

pub position-parity : (h : Shelf) (s : ℕ) → position_in h s (h.k - 1) ≡ parity_of (layout_in h) s
position-parity h s = let l : h.k - 1 ≤ h.k - 1 = omega arith in rw (le-ltb (h.k - 1) (h.k - 1) l)

module _ (h : Shelf) (ok : is_shelf h ≡ true) (s : ℕ) where
  E : Even (layout_in h)
  E = even_shelf h ok

  last : {i : ℕ} → i < h.k → ltb i (h.k - 1) ≡ false → i ≡ h.k - 1
  last {i} l e = omega (arith, ltb-false i (h.k - 1) e)

  pub position_in_lt : (i : ℕ) → i < h.k → position_in h s i < h.k
  position_in_lt i l = cases (ltb i (h.k - 1))
      (λ e. rw e (position-lt (layout_in h) E s i (ltb-true i (h.k - 1) e)))
      (λ e. rw e (parity-lt (layout_in h) E s))

  pub index_position : (i : ℕ) → i < h.k → index_of h s (position_in h s i) ≡ i
  index_position i l = cases (ltb i (h.k - 1))
      (λ e. rw (e, ne_eqb (position_of (parity_of (layout_in h) s) i) (parity_of (layout_in h) s) (position_not_parity (parity_of (layout_in h) s) i))
      (index_of_position (parity_of (layout_in h) s) i))
      (λ e. rw (e, eq-eqb (parity_of (layout_in h) s) (parity_of (layout_in h) s) refl) (sym (last l e)))

  pub position_in_inj : (i j : ℕ) → i < h.k → j < h.k → position_in h s i ≡ position_in h s j → i ≡ j
  position_in_inj i j hi hj e = sym (index_position i hi) ∙ ap (index_of h s) e ∙ index_position j hj

  data_below : (p : ℕ) → p < h.k → eqb p (parity_of (layout_in h) s) ≡ false → data_of (parity_of (layout_in h) s) p < h.k - 1
  data_below p l e = index_below (parity_of (layout_in h) s) p (eqb-false _ _ e) (h.k - 1) (omega (arith, parity-lt (layout_in h) E s)) (omega arith)

  pub index_lt : (p : ℕ) → p < h.k → index_of h s p < h.k
  index_lt p l = cases (eqb p (parity_of (layout_in h) s))
      (λ e. rw e (omega (arith, E.k_least)))
      (λ e. rw e (omega (arith, data_below p l e)))

  pub position_index : (p : ℕ) → p < h.k → position_in h s (index_of h s p) ≡ p
  position_index p l = cases (eqb p (parity_of (layout_in h) s))
      (λ e. rw e (position-parity h s ∙ sym (eqb-true _ _ e)))
      (λ e. rw e (position_data h s (data_of (parity_of (layout_in h) s) p) (data_below p l e) ∙ position_of_index (parity_of (layout_in h) s) p (eqb-false _ _ e)))
