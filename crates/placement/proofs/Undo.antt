-- Looking up undoes placing and placing undoes looking up, for every position of a stripe and every place. Assumes nothing.
use mathlib.Core.Path.{◌≡◌, ap, ◌∙◌}
use Prim.Native.Nat.{ℕ, ◌*◌, ◌/◌, ◌%◌, ◌<◌}
use native.Mathlib.Nat.{div-add-mod', mod-lt, div-lt_iff_lt-mul}
use native.Mathlib.Omega.{arith}
use lib.Dec.{eqb}
use lib.Arith.{digits_lt, digits_div, digits_mod}
use borrow.Author.Tests.{eqb-true}
use Rattle.design.specs.Count.{nth}
use Rattle.design.specs.Tuples.{holds, before}
use Rattle.design.proofs.Counting.{Nth, nth_is, nth-count}
use Rattle.placement.specs.Layout.{Layout, stripes, offsets, tuple_of, disk_of, offset_of, tuple_at, stripe_at, position_at}
use Rattle.placement.proofs.Held.{holds-disk, held_at}
use Rattle.placement.proofs.Even.{Even}
use Rattle.placement.proofs.Row.{tuple-lt, tuple_row, offset_row, before-lt}

module _ (L : Layout) (E : Even L) where
  -- ---- looking up undoes placing

  module _ (s p : ℕ) (hp : p < L.design.k) where
    offset_div : offset_of L s p / L.r ≡ s / L.design.b
    offset_div = rw (offset_row L E s p) (digits_div (s / L.design.b) (before-lt L E s p hp))

    offset_mod : offset_of L s p % L.r ≡ before L.design (tuple_of L s) (disk_of L s p)
    offset_mod = rw (offset_row L E s p) (digits_mod (s / L.design.b) (before-lt L E s p hp))

    tuple_back : tuple_at L (disk_of L s p) (offset_of L s p) ≡ tuple_of L s
    unfolding tuple_at before
    tuple_back =
        rw offset_mod
        (nth-count (λ q. holds L.design q (disk_of L s p)) L.design.b (tuple_of L s) (tuple-lt L E s) (holds-disk L.design (tuple_of L s) p hp))

    pub stripe_back : stripe_at L (disk_of L s p) (offset_of L s p) ≡ s
    unfolding stripe_at
    stripe_back = rw (tuple_back, offset_div, tuple_row L E s) (div-add-mod' s L.design.b)

    pub position_back : position_at L (disk_of L s p) (offset_of L s p) ≡ p
    unfolding position_at
    position_back =
        let at = held_at L.design (tuple_of L s) (disk_of L s p) (holds-disk L.design (tuple_of L s) p hp) in
        let x : ℕ = nth (λ p'. eqb (disk_of L s p') (disk_of L s p)) L.design.k 0 in
        rw tuple_back (E.different (tuple_of L s) (tuple-lt L E s) x p at.below hp (eqb-true _ _ at.passes))

  -- ---- placing undoes looking up

  module _ (d o : ℕ) (hd : d < L.design.v) where
    tuple_is : Nth (λ q. holds L.design q d) L.design.b (o % L.r) (tuple_at L d o)
    unfolding tuple_at before
    tuple_is = nth_is (λ q. holds L.design q d) L.design.b (o % L.r) (omega (arith, mod-lt o E.r_pos, E.often d hd))

    pub row_there : stripe_at L d o / L.design.b ≡ o / L.r
    unfolding stripe_at
    row_there = digits_div (o / L.r) tuple_is.below

    pub tuple_there : tuple_of L (stripe_at L d o) ≡ tuple_at L d o
    unfolding stripe_at
    tuple_there = tuple_row L E (stripe_at L d o) ∙ digits_mod (o / L.r) tuple_is.below

    position_is : Nth (λ p. eqb (L.design.disk (tuple_at L d o) p) d) L.design.k 0 (position_at L d o)
    unfolding position_at
    position_is = held_at L.design (tuple_at L d o) d tuple_is.passes

    pub position_there : position_at L d o < L.design.k
    position_there = position_is.below

    pub stripe_there : o < offsets L → stripe_at L d o < stripes L
    unfolding stripe_at
    stripe_there ho =
        let l : o < L.T * L.design.k * L.r = omega arith in
        omega (arith, digits_lt ((div-lt_iff_lt-mul E.r_pos).1 l) tuple_is.below)

    pub disk_there : disk_of L (stripe_at L d o) (position_at L d o) ≡ d
    disk_there = ap (λ (q : ℕ). L.design.disk q (position_at L d o)) tuple_there ∙ eqb-true _ _ position_is.passes

    pub offset_there : offset_of L (stripe_at L d o) (position_at L d o) ≡ o
    unfolding before
    offset_there =
        rw (offset_row L E (stripe_at L d o) (position_at L d o), disk_there, tuple_there, tuple_is.rank, row_there) (div-add-mod' o L.r)
