-- The image of a shelf (document 01, "Where a unit stands"): v regions, disk 0 first, of T·r·k units each. A stripe's units are
-- named by their use: data 0 to k - 2 in address order, and k - 1, the parity.
use Rattle.std.specs.Prelude.{Bool, not, cond, List, ℕ, ◌+◌, ◌-◌, ◌*◌, ◌/◌, ◌%◌, ◌^◌, ltb, eqb}
use Rattle.design.specs.declared.Shelf.{Shelf}
use Rattle.design.specs.Loss.{is_lost}
use Rattle.placement.specs.Slots.{position_of}
use Rattle.placement.specs.Layout.{layout_in, offsets, parity_of, disk_of, offset_of, stripe_at, position_at}
use Rattle.parity.specs.Units.{zeros, unit_at, units_of, xor_sum, is_zero, put}

abbrev pub unit_size : Shelf → ℕ
unit_size h = 2 ^ h.u

abbrev pub depth : Shelf → ℕ
depth h = offsets (layout_in h)

-- the units of the image, and its bytes
abbrev pub units : Shelf → ℕ
units h = h.v * depth h

abbrev pub image_size : Shelf → ℕ
image_size h = units h * unit_size h

-- ---- where unit i of stripe s stands: its position, and its number in the image

abbrev pub position_in : Shelf → ℕ → ℕ → ℕ
position_in h s i = cond (ltb i (h.k - 1)) (position_of (parity_of (layout_in h) s) i) (parity_of (layout_in h) s)

unfoldable pub unit_in : Shelf → ℕ → ℕ → ℕ
unit_in h s i = disk_of (layout_in h) s (position_in h s i) * depth h + offset_of (layout_in h) s (position_in h s i)

-- ---- which unit of which stripe is unit n of the image

abbrev pub disk_at : Shelf → ℕ → ℕ
disk_at h n = n / depth h

unfoldable pub stripe_here : Shelf → ℕ → ℕ
stripe_here h n = stripe_at (layout_in h) (disk_at h n) (n % depth h)

unfoldable pub index_here : Shelf → ℕ → ℕ
index_here h n =
    let parity : ℕ = parity_of (layout_in h) (stripe_here h n) in
    let p : ℕ = position_at (layout_in h) (disk_at h n) (n % depth h) in
    cond (eqb p parity) (h.k - 1) (cond (ltb p parity) p (p - 1))

-- ---- unit n of the image is present: not on the lost disk

unfoldable pub present : Shelf → ℕ → Bool
present h n = not (is_lost h (disk_at h n))

-- ---- what the image holds

-- unit i of stripe s
unfoldable pub cell : Shelf → List ℕ → ℕ → ℕ → List ℕ
cell h image s i = unit_at (unit_size h) image (unit_in h s i)

-- the exclusive-or of the other units of stripe s
unfoldable pub others : Shelf → List ℕ → ℕ → ℕ → List ℕ
others h image s i = xor_sum (unit_size h) (put (cell h image s) i (zeros (unit_size h))) h.k

-- the exclusive-or of the units of stripe s is not all zeros
unfoldable pub wrong : Shelf → List ℕ → ℕ → Bool
wrong h image s = not (is_zero (xor_sum (unit_size h) (cell h image s) h.k))

-- each unit n that passes `on` becomes f n; every other unit is as it was
unfoldable pub patch : Shelf → List ℕ → (ℕ → Bool) → (ℕ → List ℕ) → List ℕ
patch h image on f = units_of (λ n. cond (on n) (f n) (unit_at (unit_size h) image n)) (units h)
