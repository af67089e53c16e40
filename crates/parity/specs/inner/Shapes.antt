-- Where the code finds the units of an address, a unit renewed, and what is known once the rules of a call are kept.
use Rattle.std.specs.Prelude.{◌≡◌, true, List, ℕ, ◌-◌, ◌*◌, ◌<◌, length}
use Rattle.design.specs.declared.Shelf.{Shelf}
use Rattle.design.specs.Shelf.{is_shelf}
use Rattle.placement.specs.Layout.{layout_in, stripes, addresses, stripe_of, j_of}
use Rattle.parity.specs.declared.storing.Standing.{Standing}
use Rattle.parity.specs.Units.{xor_sum, put}
use Rattle.parity.specs.inner.Stores.{put_unit}
use Rattle.parity.specs.Stripe.{unit_size, image_size, unit_in, cell}

-- the stripe of an address and its index there, and the units of the address and of the parity in the image
unfoldable pub standing_in : Shelf → ℕ → Standing
standing_in h a =
    let s : ℕ = stripe_of (layout_in h) a in
    let j : ℕ = j_of (layout_in h) a in
    record { stripe = s; index = j; unit = unit_in h s j; parity = unit_in h s (h.k - 1) }

-- x becomes unit i of stripe s
abbrev pub renewed : Shelf → List ℕ → ℕ → ℕ → List ℕ → List ℕ
renewed h image s i x = put_unit (unit_size h) image (unit_in h s i) x

-- the parity of stripe s becomes the exclusive-or of the data with x for data j
unfoldable pub resealed : Shelf → List ℕ → ℕ → ℕ → List ℕ → List ℕ
resealed h image s j x = renewed h image s (h.k - 1) (xor_sum (unit_size h) (put (cell h image s) j x) (h.k - 1))

-- there is a unit i of stripe s
abbrev pub StripeUnit : Shelf → ℕ → ℕ → Type 0
StripeUnit h s i = (s < stripes (layout_in h)) × (i < h.k)

-- ---- the rules that are kept: facts of a shelf, an image and a buffer, of which one is lent `&mut`, so that no struct can hold them

-- rules 10 and 11
pub record Held (h : Shelf) (image : List ℕ) : Type 0 where
  pub shelf : is_shelf h ≡ true
  pub size : length image ≡ image_size h

-- those of a read, a unit write or show address
pub record UnitCall (h : Shelf) (image : List ℕ) (a : ℕ) (unit : List ℕ) : Type 0 where
  pub stored : Held h image
  pub address : a < addresses (layout_in h)
  pub exact : length unit ≡ unit_size h

-- those of a unit that is data j of stripe s
pub record DataCall (h : Shelf) (image : List ℕ) (s j : ℕ) (unit : List ℕ) : Type 0 where
  pub size : length image ≡ image_size h
  pub stripe : s < stripes (layout_in h)
  pub index : j < h.k - 1
  pub exact : length unit ≡ unit_size h

-- those of a stripe write
pub record StripeCall (h : Shelf) (image : List ℕ) (s : ℕ) (buffer : List ℕ) : Type 0 where
  pub stored : Held h image
  pub stripe : s < stripes (layout_in h)
  pub exact : length buffer ≡ (h.k - 1) * unit_size h
