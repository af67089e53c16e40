-- Laws of a run of places that are put one after another. Assumes nothing.
use mathlib.Core.Path.{◌≡◌, sym, ap, ap₂, ◌∙◌}
use mathlib.Core.List.{List}
use Prim.Native.Nat.{ℕ, suc, ◌+◌, ◌*◌, ◌-◌, ◌<◌, ◌≤◌}
use native.Mathlib.Omega.{arith}
use Rattle.placement.specs.declared.Spot.{Spot}
use Rattle.placement.specs.Layout.{Layout}
use Rattle.placement.specs.Placed.{spot_of}
use Rattle.host.specs.Numbers.{numbered}
use Rattle.host.specs.Places.{spot_numbers, spots_into}

-- what is left to write of n records, of which i are written
abbrev pub spots_left : Layout → ℕ → ℕ → ℕ → List ℕ → List ℕ
spots_left L first n i out = spots_into L (first + i) i (n - i) out

pub run_start : (L : Layout) (first n : ℕ) (out : List ℕ) → spots_left L first n 0 out ≡ spots_into L first 0 n out
run_start L first n out =
    let start : first + 0 ≡ first = omega arith in
    let all : n - 0 ≡ n = omega arith in
    ap₂ (λ (a m : ℕ). spots_into L a 0 m out) start all

pub run_more : (L : Layout) (first n i : ℕ) (out : List ℕ) {spot : Spot} {out' : List ℕ} → i < n
    → out' ≡ numbered out (4 * i) (spot_numbers spot) → spot ≡ spot_of L (first + i) → spots_left L first n (i + 1) out' ≡ spots_left L first n i out
unfolding spots_into
run_more L first n i out {spot} {out'} h is spot_is =
    let left : n - i ≡ suc (n - (i + 1)) = omega arith in
    let next : first + (i + 1) ≡ first + i + 1 = omega arith in
    ap₂ (λ (a : ℕ) (o : List ℕ). spots_into L a (i + 1) (n - (i + 1)) o) next (is ∙ ap (λ (s : Spot). numbered out (4 * i) (spot_numbers s)) spot_is)
    ∙ ap (λ (m : ℕ). spots_into L (first + i) i m out) (sym left)

pub run_done : (L : Layout) (first n i : ℕ) (out : List ℕ) → n ≤ i → out ≡ spots_left L first n i out
unfolding spots_into
run_done L first n i out h =
    let none : n - i ≡ 0 = omega arith in
    sym (ap (λ (m : ℕ). spots_into L (first + i) i m out) none)
