-- What placing asks of a layout, and that a shelf that a call takes has it. Assumes nothing.
use mathlib.Core.Path.{◌≡◌}
use mathlib.Core.Bool.{true}
use Prim.Native.Nat.{ℕ, ◌+◌, ◌*◌, ◌≤◌, ◌<◌}
use native.Mathlib.Omega.{arith}
use lib.Arith.{digits_lt}
use Rattle.design.specs.declared.Shelf.{Shelf}
use Rattle.design.specs.Tuples.{Different, holds, before}
use Rattle.design.specs.Shelf.{design_in, is_shelf}
use Rattle.design.proofs.Counting.{count-lt}
use Rattle.design.proofs.ShelfTests.{shelf_parts}
use Rattle.placement.specs.Layout.{Layout, layout_in}
use Rattle.placement.proofs.Held.{holds-disk}

-- some tuples of at least two different disks below v, and each disk in r of them
pub record Even (L : Layout) : Type 0 where
  pub k_least : 2 ≤ L.design.k
  pub b_pos : 0 < L.design.b
  pub r_pos : 0 < L.r
  pub T_pos : 0 < L.T
  pub range : (q p : ℕ) → q < L.design.b → p < L.design.k → L.design.disk q p < L.design.v
  pub different : (q : ℕ) → q < L.design.b → Different (L.design.disk q) L.design.k
  pub often : (d : ℕ) → d < L.design.v → before L.design L.design.b d ≡ L.r

pub even_shelf : (h : Shelf) → is_shelf h ≡ true → Even (layout_in h)
unfolding before
even_shelf h e =
    let w = shelf_parts h e in
    let hb : 0 < h.b = omega (arith, w.limits.b_least) in
    let hk : 0 < h.k = omega (arith, w.limits.k_least) in
    let range : (q p : ℕ) → q < h.b → p < h.k → (design_in h).disk q p < h.v = λ q p hq hp. w.below (q * h.k + p) (digits_lt hq hp) in
    let d : ℕ = (design_in h).disk 0 0 in
    record {
      k_least = w.limits.k_least;
      b_pos = hb;
      r_pos = omega (arith, w.often d (range 0 0 hb hk), count-lt (λ q. holds (design_in h) q d) 0 h.b hb (holds-disk (design_in h) 0 0 hk));
      T_pos = omega (arith, w.limits.T_least);
      range = range;
      different = w.different;
      often = w.often;
    }
