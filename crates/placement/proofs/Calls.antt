-- Looking up undoes placing and placing undoes looking up, over the calls' own promises. Assumes nothing.
use mathlib.Core.Path.{◌≡◌, sym, ap, ◌∙◌}
use mathlib.Core.Logic.{◌⊎◌, inl, inr}
use Prim.Native.Nat.{ℕ, ◌*◌}
use native.Mathlib.Nat.{mul-div_cancel}
use native.Mathlib.Omega.{arith}
use Rattle.std.specs.Prelude.{Ok}
use Rattle.design.proofs.Refused.{ok_same}
use Rattle.design.specs.declared.Shelf.{Shelf}
use Rattle.placement.specs.declared.Spot.{Spot}
use Rattle.placement.specs.declared.LookUp.TheVariants as LookUp
use Rattle.placement.specs.Layout.{layout_in, data_count, stripe_of}
use Rattle.placement.specs.Placed.{spot_of, placed, looked_up}
use Rattle.placement.proofs.Even.{Even, even_shelf}
use Rattle.placement.proofs.DataCount.{data_pos}
use Rattle.placement.proofs.Stands.{PlaceOf, ParityPlaceOf, Taken, by_address, by-parity, place_below, parity_below, stripe_below, place_stands, parity_place_stands, taken, address_there, parity_there}
use Rattle.placement.proofs.Accepted.{places, placed_at, Looks, looks, looked_up_lem}

-- placing address a gives offset o of disk d, for its unit
pub record PlacedAt (h : Shelf) (a d o : ℕ) : Type 0 where
  pub spot : Spot
  pub placing : placed h a ≡ Ok spot
  pub disk : spot.disk ≡ d
  pub offset : spot.offset ≡ o

-- the same for its stripe's parity
pub record ParityPlacedAt (h : Shelf) (a d o : ℕ) : Type 0 where
  pub spot : Spot
  pub placing : placed h a ≡ Ok spot
  pub disk : spot.parity_disk ≡ d
  pub offset : spot.parity_offset ≡ o

module _ (h : Shelf) (a d o : ℕ) where
  pub look_up_of_place : PlacedAt h a d o → looked_up h d o ≡ Ok (LookUp.Data (stripe_of (layout_in h) a) a)
  look_up_of_place w =
      let x = places h a w.spot w.placing in
      let E = even_shelf h x.shelf in
      let at : PlaceOf (layout_in h) a d o = record { disk = cc; offset = cc } in
      let below = place_below (layout_in h) E a x.address in
      looked_up_lem h d o (record { shelf = x.shelf; disk = rw at.disk at below.0; offset = rw at.offset at below.1 })
      ∙ ap Ok (place_stands (layout_in h) E at)

  pub look_up_of_parity : ParityPlacedAt h a d o → looked_up h d o ≡ Ok (LookUp.Parity (stripe_of (layout_in h) a))
  unfolding spot_of
  look_up_of_parity w =
      let x = places h a w.spot w.placing in
      let E = even_shelf h x.shelf in
      let at : ParityPlaceOf (layout_in h) (stripe_of (layout_in h) a) d o = record { disk = cc; offset = cc } in
      let below = parity_below (layout_in h) E (stripe_of (layout_in h) a) ((stripe_below (layout_in h) E a).1 x.address) in
      looked_up_lem h d o (record { shelf = x.shelf; disk = rw at.disk at below.0; offset = rw at.offset at below.1 })
      ∙ ap Ok (parity_place_stands (layout_in h) E at)

  pub place_of_look_up : (s : ℕ) → looked_up h d o ≡ Ok (LookUp.Data s a) → PlacedAt h a d o × (s ≡ stripe_of (layout_in h) a)
  place_of_look_up s e =
      let w = looks h d o (λ x r. let z : ◌≡◌ {A = ℕ} 0 1 = cc in omega arith) in
      let E = even_shelf h w.shelf in
      let t = address_there (layout_in h) E d o w.disk w.offset s a (ok_same (sym (looked_up_lem h d o w) ∙ e)) in
      (record { spot = spot_of (layout_in h) a; placing = placed_at h a w.shelf t.0; disk = t.1.disk; offset = t.1.offset }, t.2)

  pub parity_of_look_up : looked_up h d o ≡ Ok (LookUp.Parity (stripe_of (layout_in h) a)) → ParityPlacedAt h a d o
  unfolding spot_of
  parity_of_look_up e =
      let w = looks h d o (λ x r. let z : ◌≡◌ {A = ℕ} 0 1 = cc in omega arith) in
      let E = even_shelf h w.shelf in
      let t = parity_there (layout_in h) E d o w.disk w.offset (stripe_of (layout_in h) a) (ok_same (sym (looked_up_lem h d o w) ∙ e)) in
      record {
        spot = spot_of (layout_in h) a;
        placing = placed_at h a w.shelf ((stripe_below (layout_in h) E a).0 t.0);
        disk = t.1.disk;
        offset = t.1.offset;
      }

-- two addresses stand at two places
pub one_place : (h : Shelf) (a a' d o : ℕ) → PlacedAt h a d o → PlacedAt h a' d o → a ≡ a'
one_place h a a' d o w w' = cc (look_up_of_place h a d o w, look_up_of_place h a' d o w')

-- every place is that of an address or of its stripe's parity
pub every_place : (h : Shelf) (d o : ℕ) → Looks h d o → ((a : ℕ) × PlacedAt h a d o) ⊎ ((a : ℕ) × ParityPlacedAt h a d o)
every_place h d o w = go (taken (layout_in h) E d o w.disk w.offset)
  where
    E : Even (layout_in h)
    E = even_shelf h w.shelf

    go : Taken (layout_in h) d o → ((a : ℕ) × PlacedAt h a d o) ⊎ ((a : ℕ) × ParityPlacedAt h a d o)
    go (by_address a l x) = inl (a, (place_of_look_up h a d o (stripe_of (layout_in h) a) (looked_up_lem h d o w ∙ ap Ok (place_stands (layout_in h) E x))).0)
    go (by-parity s l x) =
        let a : ℕ = s * data_count (layout_in h) in
        let e : stripe_of (layout_in h) a ≡ s = mul-div_cancel s (data_pos (layout_in h) E) in
        inr (a, parity_of_look_up h a d o (looked_up_lem h d o w ∙ ap Ok (parity_place_stands (layout_in h) E x ∙ ap LookUp.Parity (sym e))))
