-- `parity::blocks::seal` meets its contract: the units of the buffer are numbered in order, and none is left out. Assumes nothing.
use mathlib.Core.Path.{◌≡◌, refl}
use mathlib.Core.List.{List, [], ◌∷◌}
use Prim.Native.Nat.{ℕ, ◌*◌, ◌≤◌}
use native.Mathlib.Nat.{mul-le-mul_right}
use native.Mathlib.Omega.{arith}
use lib.Dec.{eqb}
use lib.ListN.{length, get_or, take}
use lib.Seq.{length-take-le}
use borrow.Author.Tests.{eqb-true}
use Rattle.design.specs.Count.{every}
use Rattle.design.proofs.Counting.{every-at}
use Rattle.parity.specs.inner.Blocks.{Listed}
use Rattle.parity.proofs.Rest.{listed_front, listed_within, listed_sealed}
use Rattle.parity.proofs.blocks.seal.Goals as goal

abbrev order : List ℕ
order = 0 ∷ 1 ∷ 2 ∷ 3 ∷ 4 ∷ 5 ∷ 6 ∷ 7 ∷ 8 ∷ 9 ∷ 10 ∷ 11 ∷ 12 ∷ 13 ∷ 14 ∷ 15 ∷ []

in_order : Listed order (λ j. j) 16
unfolding every
in_order j l = eqb-true (get_or order j 0) j (every-at 16 (λ i. eqb (get_or order i 0) i) refl j l)

taken : (count : ℕ) → count ≤ 16 → (length (take count order) ≡ count) × Listed (take count order) (λ j. j) count
taken count most = (length-take-le count order most, listed_front order (λ j. j) count (λ j l. in_order j (omega arith)))

pub gather-requires : goal.gather-requires
gather-requires c =
    let a = c.args in
    let first = taken a.count c.requires.0 in
    record { room = c.requires.1; within = listed_within (take a.count order) (λ j. j) a.count first.0 first.1 _ _ (λ j l. omega (arith, c.requires.2, mul-le-mul_right (a.per * 128) l)) }

pub returns : goal.returns
returns c =
    let a = c.args in
    let first = taken a.count c.requires.0 in
    listed_sealed (take a.count order) (λ j. j) a.count first.0 first.1 (a.per * 128) a.buffer.now a.image.now a.n c.gather.ensures
