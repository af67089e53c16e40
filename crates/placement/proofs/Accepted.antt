-- When placing and looking up are accepted, and what they give then; the rules of each call rise. Assumes nothing.
use mathlib.Core.Path.{◌≡◌, refl, ap}
use mathlib.Core.Logic.{◌⊎◌, inl, inr}
use mathlib.Core.Bool.{Bool, true, false, ◌&&◌}
use mathlib.Core.List.{[], ◌∷◌}
use Prim.Native.Nat.{ℕ, ◌≤◌, ◌<◌}
use native.Mathlib.Omega.{arith}
use lib.Dec.{ltb}
use borrow.Author.Tests.{lt-ltb, ltb-true, le-ltb}
use Rattle.std.specs.Prelude.{Ok, Err}
use Rattle.design.specs.declared.Shelf.{Shelf}
use Rattle.design.specs.declared.Refusal.{Refusal}
use Rattle.design.specs.declared.Refusal.TheVariants.{NotAShelf, OutOfRange}
use Rattle.design.specs.Refusals.{Verdict, answered}
use Rattle.design.specs.Refusals.{number, first_broken}
use Rattle.design.specs.Shelf.{is_shelf, shelf_rule}
use Rattle.design.proofs.Counting.{decided, both, both_of, fails}
use Rattle.design.proofs.Lowest.{rising}
use Rattle.placement.specs.declared.Spot.{Spot}
use Rattle.placement.specs.Layout.{layout_in, addresses, offsets}
use Rattle.placement.specs.Placed.{range_rule, spot_of, place_rules, placed, stands_at, look_up_rules, looked_up, run_rules}

-- ---- the rules rise

pub place_rise : (h : Shelf) (a : ℕ) → rising 0 (place_rules h a) ≡ true
unfolding rising place_rules number
place_rise h a = refl

pub look_up_rise : (h : Shelf) (d o : ℕ) → rising 0 (look_up_rules h d o) ≡ true
unfolding rising look_up_rules number
look_up_rise h d o = refl

pub run_rise : (h : Shelf) (first n : ℕ) → rising 0 (run_rules h first n) ≡ true
unfolding rising run_rules number
run_rise h first n = refl

-- ---- a call with the rules of the shelf and of a range

pub accept : (h : Shelf) {in_range : Bool} → is_shelf h ≡ true → in_range ≡ true → first_broken (shelf_rule h ∷ range_rule in_range ∷ []) ≡ (Ok tt)
unfolding first_broken
accept h e t = rw (e, t)

pub refuse_shelf : (h : Shelf) (in_range : Bool) → is_shelf h ≡ false → first_broken (shelf_rule h ∷ range_rule in_range ∷ []) ≡ Err NotAShelf
unfolding first_broken
refuse_shelf h in_range e = rw e

pub refuse_range : (h : Shelf) {in_range : Bool} → is_shelf h ≡ true → in_range ≡ false → first_broken (shelf_rule h ∷ range_rule in_range ∷ []) ≡ Err OutOfRange
unfolding first_broken
refuse_range h e t = rw (e, t)

pub data Judged (h : Shelf) (in_range : Bool) : Type 0 where
  accepted : is_shelf h ≡ true → in_range ≡ true → Judged h in_range
  refused : (x : Refusal) → first_broken (shelf_rule h ∷ range_rule in_range ∷ []) ≡ Err x → Judged h in_range

pub judged : (h : Shelf) (in_range : Bool) → Judged h in_range
judged h in_range = go (decided (is_shelf h)) (decided in_range)
  where
    go : (is_shelf h ≡ true) ⊎ (is_shelf h ≡ false) → (in_range ≡ true) ⊎ (in_range ≡ false) → Judged h in_range
    go (inl e) (inl t) = accepted e t
    go (inl e) (inr t) = refused OutOfRange (refuse_range h e t)
    go (inr e) y = refused NotAShelf (refuse_shelf h in_range e)

-- ---- placing

-- placing gives x for address a
pub record Places (h : Shelf) (a : ℕ) (x : Spot) : Type 0 where
  pub shelf : is_shelf h ≡ true
  pub address : a < addresses (layout_in h)
  pub spot : x ≡ spot_of (layout_in h) a

module _ (h : Shelf) (a : ℕ) where
  pub placed_at : is_shelf h ≡ true → a < addresses (layout_in h) → placed h a ≡ Ok (spot_of (layout_in h) a)
  unfolding placed place_rules answered
  placed_at e l = ap (λ (x : Verdict). answered x (spot_of (layout_in h) a)) (accept h e (lt-ltb a (addresses (layout_in h)) l))

  pub placed_not_a-shelf : is_shelf h ≡ false → placed h a ≡ Err NotAShelf
  unfolding placed place_rules answered
  placed_not_a-shelf e = rw (refuse_shelf h _ e)

  pub placed_out_of_range : is_shelf h ≡ true → addresses (layout_in h) ≤ a → placed h a ≡ Err OutOfRange
  unfolding placed place_rules answered
  placed_out_of_range e l = rw (refuse_range h e (le-ltb a (addresses (layout_in h)) l))

  pub places : (x : Spot) → placed h a ≡ Ok x → Places h a x
  unfolding placed place_rules answered
  places x p = go (judged h (ltb a (addresses (layout_in h))))
    where
      go : Judged h (ltb a (addresses (layout_in h))) → Places h a x
      go (accepted e t) =
          let l : a < addresses (layout_in h) = ltb-true a (addresses (layout_in h)) t in
          record { shelf = e; address = l; spot = cc (placed_at e l) }
      go (refused y v) = let z : ◌≡◌ {A = ℕ} 0 1 = cc (rw v at p) in absurd (omega arith)

-- ---- looking up

-- looking up the place (d, o) is accepted
pub record Looks (h : Shelf) (d o : ℕ) : Type 0 where
  pub shelf : is_shelf h ≡ true
  pub disk : d < h.v
  pub offset : o < offsets (layout_in h)

module _ (h : Shelf) (d o : ℕ) where
  is_in_range : (ltb d h.v && ltb o (offsets (layout_in h))) ≡ true → (d < h.v) × (o < offsets (layout_in h))
  is_in_range t =
      let l = both (ltb d h.v) (ltb o (offsets (layout_in h))) t in
      (ltb-true d h.v l.0, ltb-true o (offsets (layout_in h)) l.1)

  pub looked_up_lem : Looks h d o → looked_up h d o ≡ Ok (stands_at (layout_in h) d o)
  unfolding looked_up look_up_rules answered
  looked_up_lem w = rw (accept h w.shelf (both_of (lt-ltb d h.v w.disk) (lt-ltb o (offsets (layout_in h)) w.offset)))

  pub looked_up_not_a-shelf : is_shelf h ≡ false → looked_up h d o ≡ Err NotAShelf
  unfolding looked_up look_up_rules answered
  looked_up_not_a-shelf e = rw (refuse_shelf h _ e)

  pub looked_up_out_of_range : is_shelf h ≡ true → (d < h.v → o < offsets (layout_in h) → ⊥) → looked_up h d o ≡ Err OutOfRange
  unfolding looked_up look_up_rules answered
  looked_up_out_of_range e none =
      rw (refuse_range h e (fails (ltb d h.v && ltb o (offsets (layout_in h))) (λ t. let l = is_in_range t in none l.0 l.1)))

  -- what is not refused is accepted
  pub looks : ((x : Refusal) → looked_up h d o ≡ Err x → ⊥) → Looks h d o
  unfolding looked_up look_up_rules answered
  looks some = go (judged h (ltb d h.v && ltb o (offsets (layout_in h))))
    where
      go : Judged h (ltb d h.v && ltb o (offsets (layout_in h))) → Looks h d o
      go (accepted e t) = let l = is_in_range t in record { shelf = e; disk = l.0; offset = l.1 }
      go (refused y v) = absurd (some y (rw v))
