-- Unit i of stripe s and unit n of the image answer one another, a stripe's units stand on different disks, and so at most
-- one of them is lost. Assumes nothing.
use mathlib.Core.Path.{◌≡◌, sym, ap, ap₂, ◌∙◌}
use mathlib.Core.Logic.{◌≢◌}
use mathlib.Core.Bool.{true, false}
use Prim.Native.Nat.{ℕ, ◌+◌, ◌*◌, ◌%◌, ◌<◌}
use native.Mathlib.Nat.{mod-lt, mul-pos, div-add-mod', div-lt_iff_lt-mul}
use native.Mathlib.Omega.{arith}
use lib.Arith.{digits_lt, digits_div, digits_mod}
use Rattle.design.specs.declared.Shelf.{Shelf}
use Rattle.design.specs.Shelf.{is_shelf}
use Rattle.placement.specs.Layout.{layout_in, stripes, disk_of, offset_of, stripe_at, position_at}
use Rattle.placement.proofs.Even.{Even, even_shelf}
use Rattle.placement.proofs.Row.{disk-lt, offset_lt}
use Rattle.placement.proofs.Undo.{stripe_back, position_back, position_there, stripe_there, disk_there, offset_there}
use Rattle.placement.proofs.Spread.{positions_apart}
use Rattle.parity.specs.Stripe.{depth, units, position_in, unit_in, disk_at, stripe_here, index_here, present}
use Rattle.parity.proofs.Cases.{cases}
use Rattle.parity.proofs.Present.{absent_together}
use Rattle.parity.proofs.Index.{index_of, position_in_lt, index_position, position_in_inj, index_lt, position_index}

-- ---- units of a stripe and units of the image

module _ (h : Shelf) (ok : is_shelf h ≡ true) where
  E : Even (layout_in h)
  E = even_shelf h ok

  pub depth_pos : 0 < depth h
  depth_pos = mul-pos (mul-pos E.T_pos E.r_pos) (omega (arith, E.k_least))

  -- ---- from a stripe to the image

  module _ (s i : ℕ) (hs : s < stripes (layout_in h)) (hi : i < h.k) where
    abbrev p : ℕ
    p = position_in h s i

    p-lt : p < h.k
    p-lt = position_in_lt h ok s i hi

    offset_below : offset_of (layout_in h) s p < depth h
    offset_below = offset_lt (layout_in h) E s p hs p-lt

    pub unit-lt : unit_in h s i < units h
    unfolding unit_in
    unit-lt = digits_lt (disk-lt (layout_in h) E s p p-lt) offset_below

    pub disk_home : disk_at h (unit_in h s i) ≡ disk_of (layout_in h) s (position_in h s i)
    unfolding unit_in
    disk_home = digits_div (disk_of (layout_in h) s p) offset_below

    pub offset_home : unit_in h s i % depth h ≡ offset_of (layout_in h) s (position_in h s i)
    unfolding unit_in
    offset_home = digits_mod (disk_of (layout_in h) s p) offset_below

    pub stripe_home : stripe_here h (unit_in h s i) ≡ s
    unfolding stripe_here
    stripe_home = rw (disk_home, offset_home) (stripe_back (layout_in h) E s p p-lt)

    position_home : position_at (layout_in h) (disk_at h (unit_in h s i)) (unit_in h s i % depth h) ≡ p
    position_home = rw (disk_home, offset_home) (position_back (layout_in h) E s p p-lt)

    pub index_home : index_here h (unit_in h s i) ≡ i
    unfolding index_here
    index_home = ap₂ (index_of h) stripe_home position_home ∙ index_position h ok s i hi

  -- ---- from the image to a stripe

  module _ (n : ℕ) (hn : n < units h) where
    pub disk_below : disk_at h n < h.v
    disk_below = (div-lt_iff_lt-mul depth_pos).1 hn

    position_below : position_at (layout_in h) (disk_at h n) (n % depth h) < h.k
    position_below = position_there (layout_in h) E (disk_at h n) (n % depth h) disk_below

    pub stripe_here-lt : stripe_here h n < stripes (layout_in h)
    unfolding stripe_here
    stripe_here-lt = stripe_there (layout_in h) E (disk_at h n) (n % depth h) disk_below (mod-lt n depth_pos)

    pub index_here-lt : index_here h n < h.k
    unfolding index_here
    index_here-lt = index_lt h ok (stripe_here h n) _ position_below

    pub unit_home : unit_in h (stripe_here h n) (index_here h n) ≡ n
    unfolding unit_in index_here stripe_here
    unit_home =
        let d : ℕ = disk_at h n in
        let o : ℕ = n % depth h in
        let s : ℕ = stripe_at (layout_in h) d o in
        ap (λ (p : ℕ). disk_of (layout_in h) s p * depth h + offset_of (layout_in h) s p) (position_index h ok s (position_at (layout_in h) d o) position_below)
        ∙ ap₂ (λ (x y : ℕ). x * depth h + y) (disk_there (layout_in h) E d o disk_below) (offset_there (layout_in h) E d o disk_below)
        ∙ div-add-mod' n (depth h)

  -- ---- a stripe's units and the lost disk

  module _ (s i j : ℕ) (hs : s < stripes (layout_in h)) (hi : i < h.k) (hj : j < h.k) where
    pub disks_apart : disk_at h (unit_in h s i) ≡ disk_at h (unit_in h s j) → i ≡ j
    disks_apart e =
        position_in_inj h ok s i j hi hj
        (positions_apart (layout_in h) E s (position_in h s i) (position_in h s j) (position_in_lt h ok s i hi) (position_in_lt h ok s j hj) (sym (disk_home s i hs hi) ∙ e ∙ disk_home s j hs hj))

    -- at most one is lost
    pub one_absent : present h (unit_in h s i) ≡ false → present h (unit_in h s j) ≡ false → i ≡ j
    one_absent a b = disks_apart (absent_together h (unit_in h s i) (unit_in h s j) a b)

    pub beside_absent : present h (unit_in h s i) ≡ false → j ≢ i → present h (unit_in h s j) ≡ true
    beside_absent a ne = cases (present h (unit_in h s j)) (λ e. e) (λ e. absurd (ne (sym (one_absent a e))))
