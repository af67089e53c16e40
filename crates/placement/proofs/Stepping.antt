-- Stepping over the parity at position p: the position of data j and the data at position x undo each other, keep the order and
-- leave the parity out. Assumes nothing.
use mathlib.Core.Path.{◌≡◌, refl, sym, ap, ◌∙◌}
use mathlib.Core.Logic.{◌⊎◌, inl, inr, ◌≢◌}
use mathlib.Core.Bool.{Bool, true, false, not}
use Prim.Native.Nat.{ℕ, zero, suc, ◌+◌, ◌-◌, ◌≤◌, ◌<◌}
use native.Mathlib.Omega.{arith}
use lib.Dec.{ltb, eqb}
use borrow.Author.Tests.{lt-ltb, ltb-true, le-ltb, ltb-false, eqb-true, ne_eqb, eqb-false}
use Rattle.design.specs.Count.{count, nth}
use Rattle.design.proofs.Counting.{decided, count_true, count_false, nth-count}
use Rattle.placement.specs.Slots.{position_of, index_of}

module _ (p : ℕ) where
  -- ---- the position of data j

  pub position_left : (j : ℕ) → j < p → position_of p j ≡ j
  position_left j h = rw (lt-ltb j p h)

  pub position_right : (j : ℕ) → p ≤ j → position_of p j ≡ j + 1
  position_right j h = rw (le-ltb j p h)

  -- data j is before the parity, or after it
  data Side (j : ℕ) : Type 0 where
    left : j < p → position_of p j ≡ j → Side j
    right : p ≤ j → position_of p j ≡ j + 1 → Side j

  side : (j : ℕ) → Side j
  side j = go (decided (ltb j p))
    where
      go : (ltb j p ≡ true) ⊎ (ltb j p ≡ false) → Side j
      go (inl e) = let h = ltb-true j p e in left h (position_left j h)
      go (inr e) = let h = ltb-false j p e in right h (position_right j h)

  pub position_not_parity : (j : ℕ) → position_of p j ≢ p
  position_not_parity j e = go (side j)
    where
      go : Side j → ⊥
      go (left h o) = omega arith
      go (right h o) = omega arith

  pub position_below : (j n : ℕ) → j < n → position_of p j < n + 1
  position_below j n l = go (side j)
    where
      go : Side j → position_of p j < n + 1
      go (left h o) = omega arith
      go (right h o) = omega arith

  -- data in address order stand in position order
  pub position-order : (i j : ℕ) → i < j → position_of p i < position_of p j
  position-order i j l = go (side i) (side j)
    where
      go : Side i → Side j → position_of p i < position_of p j
      go (left h o) (left h' o') = omega arith
      go (left h o) (right h' o') = omega arith
      go (right h o) (left h' o') = omega arith
      go (right h o) (right h' o') = omega arith

  -- ---- the data at position x

  pub index_left : (x : ℕ) → x < p → index_of p x ≡ x
  index_left x h = rw (lt-ltb x p h)

  pub index_right : (x : ℕ) → p ≤ x → index_of p x ≡ x - 1
  index_right x h = rw (le-ltb x p h)

  pub index_of_position : (j : ℕ) → index_of p (position_of p j) ≡ j
  index_of_position j = go (side j)
    where
      go : Side j → index_of p (position_of p j) ≡ j
      go (left h o) = rw o (index_left j h)
      go (right h o) = rw o (omega (arith, index_right (j + 1) (omega arith)))

  module _ (x : ℕ) (ne : x ≢ p) where
    pub position_of_index : position_of p (index_of p x) ≡ x
    position_of_index = go (decided (ltb x p))
      where
        go : (ltb x p ≡ true) ⊎ (ltb x p ≡ false) → position_of p (index_of p x) ≡ x
        go (inl e) = let h = ltb-true x p e in rw (index_left x h, e)
        go (inr e) =
            let h = ltb-false x p e in
            let l : p ≤ x - 1 = omega arith in
            rw (index_right x h, le-ltb (x - 1) p l) (omega arith)

    pub index_below : (n : ℕ) → p ≤ n → x ≤ n → index_of p x < n
    index_below n hp hx = go (decided (ltb x p))
      where
        go : (ltb x p ≡ true) ⊎ (ltb x p ≡ false) → index_of p x < n
        go (inl e) = let h = ltb-true x p e in omega (arith, index_left x h)
        go (inr e) = let h = ltb-false x p e in omega (arith, index_right x h)

  -- ---- data j stands at the j-th of the positions that are not the parity's

  abbrev other : ℕ → Bool
  other x = not (eqb x p)

  passes : (x : ℕ) → x ≢ p → other x ≡ true
  passes x ne = ap not (ne_eqb x p ne)

  before-parity : (x : ℕ) → x ≤ p → count other x ≡ x
  unfolding count
  before-parity zero l = refl
  before-parity (suc x) l = count_true other x (passes x (λ e. omega arith)) ∙ ap suc (before-parity x (omega arith))

  past_parity : (x : ℕ) → p < x → count other x + 1 ≡ x
  past_parity zero l = absurd (omega arith)
  past_parity (suc x) l = go (decided (eqb x p)) (λ h. past_parity x h)
    where
      go : (eqb x p ≡ true) ⊎ (eqb x p ≡ false) → (p < x → count other x + 1 ≡ x) → count other (suc x) + 1 ≡ suc x
      go (inl e) ih = omega (arith, count_false other x (ap not e), before-parity x (omega (arith, eqb-true x p e)))
      go (inr e) ih = let ne = eqb-false x p e in omega (arith, count_true other x (passes x ne), ih (omega arith))

  others-before : (j : ℕ) → count other (position_of p j) ≡ j
  others-before j = go (side j)
    where
      go : Side j → count other (position_of p j) ≡ j
      go (left h o) = rw o (before-parity j (omega arith))
      go (right h o) = rw o (omega (arith, past_parity (j + 1) (omega arith)))

  pub position-nth : (j n : ℕ) → position_of p j < n → position_of p j ≡ nth other n j
  position-nth j n l =
      sym (nth-count other n (position_of p j) l (passes _ (position_not_parity j))) ∙ ap (nth other n) (others-before j)
