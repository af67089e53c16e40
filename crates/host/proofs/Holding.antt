-- Which bytes hold a shelf value. Assumes nothing.
use mathlib.Core.Path.{◌≡◌, sym, ap, ◌∙◌}
use mathlib.Core.Bool.{true, and-false}
use mathlib.Core.List.{List}
use Prim.Native.Nat.{ℕ, ◌≤◌, ◌<◌}
use native.Mathlib.Omega.{arith}
use lib.Dec.{leb, eqb}
use lib.ListN.{length, drop, length-drop, length-replicate}
use borrow.Author.Tests.{le-leb, lt-leb, leb-true, leb-false, eq-eqb, ne_eqb, eqb-true, eqb-false}
use Rattle.design.specs.declared.Shelf.{Shelf}
use Rattle.design.specs.Sheet.{empty_shelf}
use Rattle.design.specs.Shelf.{is_shelf}
use Rattle.design.proofs.ShelfTests.{shelf_parts}
use Rattle.parity.proofs.Cases.{cases}
use Rattle.host.specs.Numbers.{number_at}
use Rattle.host.specs.Value.{loss_of, is_value, shelf_in}

-- the empty shelf is none
pub empty_none : is_shelf empty_shelf ≡ true → ⊥
unfolding empty_shelf
empty_none e = omega (arith, (shelf_parts empty_shelf e).limits.v_least)

empty_table : length empty_shelf.table ≡ 2048
unfolding empty_shelf
empty_table = length-replicate {A = ℕ} 2048 0

module _ (bytes : List ℕ) where
  pub other_length : (length bytes ≡ 2080 → ⊥) → empty_shelf ≡ shelf_in bytes
  unfolding shelf_in is_value
  other_length ne = rw (ne_eqb (length bytes) 2080 ne)

  pub other_loss : 256 < number_at bytes 7 → empty_shelf ≡ shelf_in bytes
  unfolding shelf_in is_value
  other_loss l = rw (lt-leb (number_at bytes 7) 256 l, and-false (eqb (length bytes) 2080))

  module _ (whole : length bytes ≡ 2080) (few : number_at bytes 7 ≤ 256) where
    -- a shelf with the numbers, the table and the loss of a value
    pub held-shelf : {h : Shelf} → h.v ≡ number_at bytes 0 → h.k ≡ number_at bytes 1 → h.b ≡ number_at bytes 2 → h.T ≡ number_at bytes 3
        → h.u ≡ number_at bytes 4 → h.r ≡ number_at bytes 5 → h.lambda ≡ number_at bytes 6 → h.table ≡ drop 32 bytes → h.loss ≡ loss_of (number_at bytes 7)
        → h ≡ shelf_in bytes
    unfolding shelf_in is_value
    held-shelf p₁ p₂ p₃ p₄ p₅ p₆ p₇ p₈ p₉ = rw (eq-eqb (length bytes) 2080 whole, le-leb (number_at bytes 7) 256 few, ← p₁, ← p₂, ← p₃, ← p₄, ← p₅, ← p₆, ← p₇, ← p₈, ← p₉)

    value-table : (shelf_in bytes).table ≡ drop 32 bytes
    unfolding shelf_in is_value
    value-table = rw (eq-eqb (length bytes) 2080 whole, le-leb (number_at bytes 7) 256 few)

  -- bytes of another length hold no shelf
  pub value-length : is_shelf (shelf_in bytes) ≡ true → length bytes ≡ 2080
  value-length ok =
      cases (eqb (length bytes) 2080) (λ e. eqb-true (length bytes) 2080 e)
      (λ e. absurd (empty_none (ap is_shelf (other_length (eqb-false (length bytes) 2080 e)) ∙ ok)))

  -- the table is whole, whatever the bytes are
  pub held-table : length (shelf_in bytes).table ≡ 2048
  held-table =
      let size : Shelf → ℕ = λ h. length h.table in
      cases (eqb (length bytes) 2080)
      (λ e.
      let l = eqb-true (length bytes) 2080 e in
      cases (leb (number_at bytes 7) 256)
      (λ q. ap length (value-table l (leb-true (number_at bytes 7) 256 q)) ∙ omega (arith, length-drop 32 bytes))
      (λ q. ap size (sym (other_loss (leb-false (number_at bytes 7) 256 q))) ∙ empty_table))
      (λ e. ap size (sym (other_length (eqb-false (length bytes) 2080 e))) ∙ empty_table)
