-- What a call that has passed rules 10 and 11 knows before it looks at a unit. Assumes nothing.
use mathlib.Core.Path.{◌≡◌}
use mathlib.Core.Bool.{true}
use Prim.Native.Nat.{ℕ, ◌*◌, ◌^◌, ◌≤◌, ◌<◌}
use native.Mathlib.Omega.{arith}
use Rattle.design.specs.declared.Shelf.{Shelf}
use Rattle.design.specs.Shelf.{is_shelf}
use Rattle.design.proofs.ShelfTests.{shelf_parts}
use Rattle.placement.specs.Layout.{layout_in, stripes}
use Rattle.placement.proofs.Bounds.{often_most, bounds}
use Rattle.parity.specs.Stripe.{depth}

-- the table's entries can be ranked
pub entries_fit : (h : Shelf) → is_shelf h ≡ true → h.b * h.k ≤ 2048
entries_fit h e = (shelf_parts h e).limits.places

-- what the number of a unit of stripe s is reckoned from, so that it fits a machine word
pub record Reckoned (h : Shelf) (s : ℕ) : Type 0 where
  pub two : 2 ≤ h.k
  pub most : h.k ≤ 16
  pub some : 1 ≤ h.b
  pub entries : h.b * h.k ≤ 2048
  pub often : h.r ≤ h.b
  pub deep : depth h < 2 ^ 27
  pub row : s < 2 ^ 27

pub reckoned : (h : Shelf) → is_shelf h ≡ true → (s : ℕ) → s < stripes (layout_in h) → Reckoned h s
reckoned h ok s hs =
    let l = (shelf_parts h ok).limits in
    record {
      two = l.k_least;
      most = omega (arith, l.k_most);
      some = l.b_least;
      entries = l.places;
      often = often_most h ok;
      deep = (bounds h ok).offsets;
      row = omega (arith, (bounds h ok).stripes);
    }
