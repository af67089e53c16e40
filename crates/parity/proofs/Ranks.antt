-- A unit's number by the ranks of the table's entries is its number in the image. Assumes nothing.
use mathlib.Core.Path.{◌≡◌, refl, sym, ap, ◌∙◌}
use mathlib.Core.Bool.{true, cond}
use mathlib.Core.List.{List}
use Prim.Native.Nat.{ℕ, ◌+◌, ◌-◌, ◌*◌, ◌/◌, ◌%◌, ◌<◌}
use lib.Arith.{digits_lt}
use lib.Dec.{ltb}
use lib.ListN.{get_or}
use Rattle.design.specs.declared.Shelf.{Shelf}
use Rattle.design.specs.Shelf.{design_in, is_shelf}
use Rattle.placement.specs.Slots.{position_of}
use Rattle.placement.specs.Layout.{layout_in, tuple_of}
use Rattle.placement.proofs.Even.{Even, even_shelf}
use Rattle.placement.proofs.Row.{tuple-lt, tuple_row, parity_row, offset_row}
use Rattle.placement.proofs.Flat.{rank_before}
use Rattle.parity.specs.Stripe.{depth, position_in, unit_in}
use Rattle.parity.specs.inner.Stores.{Ranked}
use Rattle.parity.proofs.Index.{position_in_lt}

-- the entry of unit i of stripe s: its tuple, and its position there
abbrev pub entry_of : Shelf → ℕ → ℕ → ℕ
entry_of h s i =
    let parity : ℕ = h.k - 1 - s / h.b % h.k in
    s % h.b * h.k + cond (ltb i (h.k - 1)) (position_of parity i) parity

module _ (h : Shelf) (ok : is_shelf h ≡ true) where
  E : Even (layout_in h)
  E = even_shelf h ok

  module _ (s i : ℕ) (hi : i < h.k) where
    entry_is : entry_of h s i ≡ tuple_of (layout_in h) s * h.k + position_in h s i
    entry_is = rw (parity_row (layout_in h) E s, tuple_row (layout_in h) E s)

    pub entry-lt : entry_of h s i < h.b * h.k
    entry-lt = rw entry_is (digits_lt (tuple-lt (layout_in h) E s) (position_in_lt h ok s i hi))

    pub numbered : (ranks : List ℕ) → Ranked h.table (h.b * h.k) ranks
        → get_or h.table (entry_of h s i) 0 * depth h + (s / h.b * h.r + get_or ranks (entry_of h s i) 0) ≡ unit_in h s i
    unfolding unit_in
    numbered ranks R =
        let q : ℕ = tuple_of (layout_in h) s in
        let p : ℕ = position_in h s i in
        let hq : q < h.b = tuple-lt (layout_in h) E s in
        let hp : p < h.k = position_in_lt h ok s i hi in
        ap (λ (e : ℕ). get_or h.table e 0 * depth h + (s / h.b * h.r + get_or ranks e 0)) entry_is
        ∙ ap (λ (o : ℕ). (design_in h).disk q p * depth h + o)
        (ap (λ (x : ℕ). s / h.b * h.r + x) (R (q * h.k + p) (digits_lt hq hp) ∙ rank_before h ok q p _ hq hp refl) ∙ sym (offset_row (layout_in h) E s p))
