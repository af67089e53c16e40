-- One bit, u places up, is the size of a unit. Assumes nothing.
use mathlib.Core.Path.{◌≡◌}
use mathlib.Core.Bool.{true}
use Prim.Native.Nat.{◌*◌, ◌^◌, ◌%◌}
use native.Mathlib.Omega.{arith}
use Rattle.design.specs.declared.Shelf.{Shelf}
use Rattle.design.specs.Shelf.{is_shelf}
use Rattle.parity.specs.Stripe.{unit_size}
use Rattle.parity.proofs.Sized.{unit_size_most}

pub unit-bit : (h : Shelf) → is_shelf h ≡ true → 1 * 2 ^ h.u % 2 ^ 64 ≡ unit_size h
unit-bit h ok = omega (arith, unit_size_most h ok)
