-- What stands at a place, in addresses: each address stands at its own place and each stripe's parity at its own, and every
-- place is one of these (document 01, "Where a unit stands"). Assumes nothing.
use mathlib.Core.Path.{◌≡◌, refl, sym, ap, ◌∙◌}
use mathlib.Core.Logic.{◌↔◌, ◌⊎◌, inl, inr, ◌≢◌}
use mathlib.Core.Bool.{true, false}
use Prim.Native.Nat.{ℕ, ◌+◌, ◌*◌, ◌<◌}
use native.Mathlib.Nat.{div-add-mod', mod-lt, div-lt_iff_lt-mul}
use native.Mathlib.Omega.{arith}
use lib.Dec.{eqb}
use lib.Arith.{digits_div, digits_mod}
use borrow.Author.Tests.{eq-eqb, eqb-true, ne_eqb, eqb-false}
use Rattle.design.proofs.Counting.{decided}
use Rattle.placement.specs.declared.LookUp.{LookUp}
use Rattle.placement.specs.Slots.{position_of, index_of}
use Rattle.placement.specs.Layout.{Layout, stripes, data_count, addresses, offsets, stripe_of, j_of, parity_of, disk_of, offset_of, stripe_at, position_at, address_of}
use Rattle.placement.specs.Placed.{spot_of, stands_at}
use Rattle.placement.proofs.Stepping.{position_not_parity, index_of_position}
use Rattle.placement.proofs.Even.{Even}
use Rattle.placement.proofs.DataCount.{data_pos}
use Rattle.placement.proofs.Position.{DataAt, data_at, parity-lt, position-lt}
use Rattle.placement.proofs.Row.{disk-lt, offset_lt}
use Rattle.placement.proofs.Undo.{stripe_back, position_back, position_there, stripe_there, disk_there, offset_there}

-- the place of address a is offset o of disk d; the same of the parity of stripe s
pub record PlaceOf (L : Layout) (a d o : ℕ) : Type 0 where
  pub disk : (spot_of L a).disk ≡ d
  pub offset : (spot_of L a).offset ≡ o

pub record ParityPlaceOf (L : Layout) (s d o : ℕ) : Type 0 where
  pub disk : disk_of L s (parity_of L s) ≡ d
  pub offset : offset_of L s (parity_of L s) ≡ o

-- the place is that of an address or of a stripe's parity
pub data Taken (L : Layout) (d o : ℕ) : Type 0 where
  by_address : (a : ℕ) → a < addresses L → PlaceOf L a d o → Taken L d o
  by-parity : (s : ℕ) → s < stripes L → ParityPlaceOf L s d o → Taken L d o

-- ---- the two answers

module _ (L : Layout) (d o : ℕ) {s p : ℕ} (stripe : stripe_at L d o ≡ s) (position : position_at L d o ≡ p) where
  pub stands_parity : p ≡ parity_of L s → stands_at L d o ≡ LookUp.Parity s
  unfolding stands_at
  stands_parity e = rw (stripe, position, eq-eqb p (parity_of L s) e)

  pub stands_data : p ≢ parity_of L s → stands_at L d o ≡ LookUp.Data s (address_of L s p)
  unfolding stands_at
  stands_data ne = rw (stripe, position, ne_eqb p (parity_of L s) ne)

module _ (L : Layout) (E : Even L) where
  -- ---- what stands at the place of a position

  pub parity_back : (s : ℕ) → stands_at L (disk_of L s (parity_of L s)) (offset_of L s (parity_of L s)) ≡ LookUp.Parity s
  parity_back s =
      let l : parity_of L s < L.design.k = parity-lt L E s in
      stands_parity L _ _ (stripe_back L E s (parity_of L s) l) (position_back L E s (parity_of L s) l) refl

  data_stands : (s j : ℕ) → j < data_count L
      → stands_at L (disk_of L s (position_of (parity_of L s) j)) (offset_of L s (position_of (parity_of L s) j)) ≡ LookUp.Data s (s * data_count L + j)
  data_stands s j h =
      let x : ℕ = position_of (parity_of L s) j in
      let l : x < L.design.k = position-lt L E s j h in
      stands_data L _ _ (stripe_back L E s x l) (position_back L E s x l) (position_not_parity (parity_of L s) j)
      ∙ ap (λ (i : ℕ). LookUp.Data s (s * data_count L + i)) (index_of_position (parity_of L s) j)

  -- ---- the place of an address

  pub j-lt : (a : ℕ) → j_of L a < data_count L
  j-lt a = mod-lt a (data_pos L E)

  pub stripe_below : (a : ℕ) → (stripe_of L a < stripes L) ↔ (a < addresses L)
  stripe_below a = div-lt_iff_lt-mul (data_pos L E)

  pub address_back : (a : ℕ) → stands_at L (spot_of L a).disk (spot_of L a).offset ≡ LookUp.Data (stripe_of L a) a
  unfolding spot_of
  address_back a =
      data_stands (stripe_of L a) (j_of L a) (j-lt a) ∙ ap (LookUp.Data (stripe_of L a)) (div-add-mod' a (data_count L))

  pub place_stands : {a d o : ℕ} → PlaceOf L a d o → stands_at L d o ≡ LookUp.Data (stripe_of L a) a
  place_stands {a} w = rw (← w.disk, ← w.offset) (address_back a)

  pub parity_place_stands : {s d o : ℕ} → ParityPlaceOf L s d o → stands_at L d o ≡ LookUp.Parity s
  parity_place_stands {s} w = rw (← w.disk, ← w.offset) (parity_back s)

  -- ---- the places of an address and of its stripe's parity are places

  pub place_below : (a : ℕ) → a < addresses L → ((spot_of L a).disk < L.design.v) × ((spot_of L a).offset < offsets L)
  unfolding spot_of
  place_below a h =
      let l = position-lt L E (stripe_of L a) (j_of L a) (j-lt a) in
      (disk-lt L E (stripe_of L a) _ l, offset_lt L E (stripe_of L a) _ ((stripe_below a).1 h) l)

  pub parity_below : (s : ℕ) → s < stripes L → (disk_of L s (parity_of L s) < L.design.v) × (offset_of L s (parity_of L s) < offsets L)
  parity_below s h =
      (disk-lt L E s (parity_of L s) (parity-lt L E s), offset_lt L E s (parity_of L s) h (parity-lt L E s))

  -- ---- one address or one parity at a place

  pub one_address : {a a' d o : ℕ} → PlaceOf L a d o → PlaceOf L a' d o → a ≡ a'
  one_address w w' = cc (place_stands w, place_stands w')

  pub one-parity : {s s' d o : ℕ} → ParityPlaceOf L s d o → ParityPlaceOf L s' d o → s ≡ s'
  one-parity w w' = cc (parity_place_stands w, parity_place_stands w')

  pub address-or-parity : {a s d o : ℕ} → PlaceOf L a d o → ParityPlaceOf L s d o → ⊥
  address-or-parity w w' = let z : ◌≡◌ {A = ℕ} 0 1 = cc (place_stands w, parity_place_stands w') in omega arith

  -- ---- every place

  module _ (d o : ℕ) (hd : d < L.design.v) (ho : o < offsets L) where
    found-parity : position_at L d o ≡ parity_of L (stripe_at L d o) → ParityPlaceOf L (stripe_at L d o) d o
    found-parity e = record {
      disk = ap (disk_of L (stripe_at L d o)) (sym e) ∙ disk_there L E d o hd;
      offset = ap (offset_of L (stripe_at L d o)) (sym e) ∙ offset_there L E d o hd;
    }

    -- the address of what is found there, where that is data
    abbrev address : ℕ
    address = address_of L (stripe_at L d o) (position_at L d o)

    module _ (ne : position_at L d o ≢ parity_of L (stripe_at L d o)) where
      found : DataAt L (stripe_at L d o) (position_at L d o) (index_of (parity_of L (stripe_at L d o)) (position_at L d o))
      found = data_at L E (stripe_at L d o) (position_at L d o) (position_there L E d o hd) ne

      found-stripe : stripe_of L address ≡ stripe_at L d o
      found-stripe = digits_div (stripe_at L d o) found.below

      found-position : position_of (parity_of L (stripe_of L address)) (j_of L address) ≡ position_at L d o
      found-position = rw (found-stripe, digits_mod (stripe_at L d o) found.below) found.stands

      found_data : PlaceOf L address d o
      unfolding spot_of
      found_data = record {
        disk = rw (found-position, found-stripe) (disk_there L E d o hd);
        offset = rw (found-position, found-stripe) (offset_there L E d o hd);
      }

    pub taken : Taken L d o
    taken = go (decided (eqb (position_at L d o) (parity_of L (stripe_at L d o))))
      where
        go : (eqb (position_at L d o) (parity_of L (stripe_at L d o)) ≡ true) ⊎ (eqb (position_at L d o) (parity_of L (stripe_at L d o)) ≡ false) → Taken L d o
        go (inl e) = by-parity (stripe_at L d o) (stripe_there L E d o hd ho) (found-parity (eqb-true _ _ e))
        go (inr e) = let ne = eqb-false _ _ e in by_address address ((stripe_below address).0 (rw (found-stripe ne) (stripe_there L E d o hd ho))) (found_data ne)

    pub address_there : (s a : ℕ) → stands_at L d o ≡ LookUp.Data s a → (a < addresses L) × PlaceOf L a d o × (s ≡ stripe_of L a)
    address_there s a e = go taken
      where
        go : Taken L d o → (a < addresses L) × PlaceOf L a d o × (s ≡ stripe_of L a)
        go (by_address a' l w) =
            let ea : a' ≡ a = cc (place_stands w) in
            let es : s ≡ stripe_of L a' = cc (place_stands w) in
            (rw ea at l, rw ea at w, rw ea at es)
        go (by-parity s' l w) = let z : ◌≡◌ {A = ℕ} 0 1 = cc (parity_place_stands w) in absurd (omega arith)

    pub parity_there : (s : ℕ) → stands_at L d o ≡ LookUp.Parity s → (s < stripes L) × ParityPlaceOf L s d o
    parity_there s e = go taken
      where
        go : Taken L d o → (s < stripes L) × ParityPlaceOf L s d o
        go (by_address a l w) = let z : ◌≡◌ {A = ℕ} 0 1 = cc (place_stands w) in absurd (omega arith)
        go (by-parity s' l w) = let es : s' ≡ s = cc (parity_place_stands w) in (rw es at l, rw es at w)
