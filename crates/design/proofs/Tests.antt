-- What the tests behind rules 3, 5, 8 and 9 of document 01 say of the numbers and of the table. Assumes nothing.
use mathlib.Core.Path.{◌≡◌, refl, sym, ap, ◌∙◌}
use mathlib.Core.Logic.{◌↔◌}
use mathlib.Core.Bool.{Bool, true, ◌&&◌, false, true≢false}
use mathlib.Core.List.{List, [], ◌∷◌}
use Prim.Native.Nat.{ℕ, zero, suc, ◌+◌, ◌*◌, ◌/◌, ◌%◌, ◌≤◌, ◌<◌, min}
use native.Mathlib.Nat.{div-add-mod', div-lt_iff_lt-mul, mod-lt, mul-zero}
use native.Mathlib.Omega.{arith}
use lib.Arith.{digits_lt}
use lib.Dec.{leb, ltb, eqb}
use lib.ListN.{length, get_or, take}
use lib.Seq.{length-take-le, get_or-take}
use Rattle.std.specs.List.{All, list_all}
use Rattle.std.proofs.lemmas.List.{get_or_default}
use borrow.Author.Tests.{lt-ltb, ltb-true, le-leb, leb-true, eq-eqb, eqb-true}
use Rattle.design.specs.Count.{every}
use Rattle.design.specs.Tuples.{Design, in_table, before, shared, disks_below, disks_even, pairs_even}
use Rattle.design.specs.Sheet.{within_limits, Limits}
use Rattle.design.proofs.Counting.{both, both_of, alike, every-at, every_of, every_ext, every_listed, fails}

-- ---- tests joined by &&

-- x and all of the tests, from the left as && joins them
unfoldable pub joined : Bool → List Bool → Bool
joined x [] = x
joined x (y ∷ tests) = joined (x && y) tests

-- all pass where x and the tests do
pub each_passes : (x : Bool) (tests : List Bool) → joined x tests ≡ true → (x ≡ true) × ((i : ℕ) → get_or tests i true ≡ true)
unfolding joined
each_passes x [] e = (e, λ i. refl)
each_passes x (y ∷ tests) e = go (each_passes (x && y) tests e)
  where
    go : ((x && y) ≡ true) × ((i : ℕ) → get_or tests i true ≡ true) → (x ≡ true) × ((i : ℕ) → get_or (y ∷ tests) i true ≡ true)
    go (t, rest) = ((both x y t).0, at)
      where
        at : (i : ℕ) → get_or (y ∷ tests) i true ≡ true
        at zero = (both x y t).1
        at (suc i) = rest i

-- one that fails is enough
pub one_fails : (tests : List Bool) (i : ℕ) → get_or tests i true ≡ false → joined true tests ≡ false
one_fails tests i t = fails (joined true tests) (λ e. true≢false (sym ((each_passes true tests e).1 i) ∙ t))

-- ---- rule 3

pub limits : (v k b T u : ℕ) → (within_limits v k b T u ≡ true) ↔ Limits v k b T u
unfolding within_limits joined
limits v k b T u = (parts, whole)
  where
    tests : List Bool
    tests = leb 2 v ∷ leb v 64 ∷ leb 2 k ∷ leb k (min v 16) ∷ leb 1 b ∷ leb (b * k) 2048 ∷ leb 1 T ∷ leb T 65535 ∷ leb u 12 ∷ []

    parts : within_limits v k b T u ≡ true → Limits v k b T u
    parts e =
        let at = (each_passes true tests e).1 in
        record {
          v_least = leb-true 2 v (at 0);
          v_most = leb-true v 64 (at 1);
          k_least = leb-true 2 k (at 2);
          k_most = leb-true k (min v 16) (at 3);
          b_least = leb-true 1 b (at 4);
          places = leb-true (b * k) 2048 (at 5);
          T_least = leb-true 1 T (at 6);
          T_most = leb-true T 65535 (at 7);
          u_most = leb-true u 12 (at 8);
        }

    whole : Limits v k b T u → within_limits v k b T u ≡ true
    whole l =
        both_of
        (both_of
        (both_of
        (both_of
        (both_of
        (both_of (both_of (both_of (le-leb 2 v l.v_least) (le-leb v 64 l.v_most)) (le-leb 2 k l.k_least)) (le-leb k (min v 16) l.k_most))
        (le-leb 1 b l.b_least))
        (le-leb (b * k) 2048 l.places))
        (le-leb 1 T l.T_least))
        (le-leb T 65535 l.T_most))
        (le-leb u 12 l.u_most)

-- ---- rule 5

-- a product that is above something has no factor zero
factor_above : (b k i : ℕ) → i < b * k → 0 < k
factor_above b zero i h = absurd (omega (arith, mul-zero b))
factor_above b (suc k) i h = omega arith

-- entry by entry is tuple by tuple
pub below_flat : (v k b : ℕ) (table : List ℕ) → every (b * k) (λ i. ltb (get_or table i 0) v) ≡ disks_below (in_table v k b table)
unfolding disks_below
below_flat v k b table = alike (every (b * k) below) (every b (λ q. every k (λ p. below (q * k + p)))) tuples entries
  where
    below : ℕ → Bool
    below i = ltb (get_or table i 0) v

    tuples : every (b * k) below ≡ true → every b (λ q. every k (λ p. below (q * k + p))) ≡ true
    tuples e =
        every_of b (λ q. every k (λ p. below (q * k + p)))
        (λ q hq. every_of k (λ p. below (q * k + p)) (λ p hp. every-at (b * k) below e (q * k + p) (digits_lt hq hp)))

    entries : every b (λ q. every k (λ p. below (q * k + p))) ≡ true → every (b * k) below ≡ true
    entries e = every_of (b * k) below at
      where
        at : (i : ℕ) → i < b * k → below i ≡ true
        at i h =
            let hk : 0 < k = factor_above b k i h in
            let row = every-at b (λ q. every k (λ p. below (q * k + p))) e (i / k) ((div-lt_iff_lt-mul hk).1 h) in
            ap below (sym (div-add-mod' i k)) ∙ every-at k (λ p. below (i / k * k + p)) row (i % k) (mod-lt i hk)

-- the places in use, lent as a slice
pub below_part : (v k b : ℕ) (table : List ℕ) → b * k ≤ length table
    → list_all (λ d. ltb d v) (take (b * k) table) ≡ disks_below (in_table v k b table)
below_part v k b table room =
    every_listed (λ d. ltb d v) (take (b * k) table)
    ∙ ap (λ (n : ℕ). every n (λ i. ltb (get_or (take (b * k) table) i 0) v)) (length-take-le (b * k) table room)
    ∙ every_ext (b * k) _ _ (λ i l. ap (λ (d : ℕ). ltb d v) (get_or-take (b * k) table i 0 l))
    ∙ below_flat v k b table

pub below_at : (v k b : ℕ) (table : List ℕ) → disks_below (in_table v k b table) ≡ true → (i : ℕ) → i < b * k → get_or table i 0 < v
below_at v k b table e i h =
    ltb-true (get_or table i 0) v (every-at (b * k) (λ i. ltb (get_or table i 0) v) (below_flat v k b table ∙ e) i h)

pub below_of : (v k b : ℕ) (table : List ℕ) → ((i : ℕ) → i < b * k → get_or table i 0 < v) → disks_below (in_table v k b table) ≡ true
below_of v k b table h =
    sym (below_flat v k b table) ∙ every_of (b * k) (λ i. ltb (get_or table i 0) v) (λ i l. lt-ltb (get_or table i 0) v (h i l))

-- so each disk there has a row of its own
pub below_all : (v k b : ℕ) (table : List ℕ) → v ≤ 64 → b * k ≤ length table → disks_below (in_table v k b table) ≡ true
    → All (λ d. d < 64) (take (b * k) table)
below_all v k b table few room e i d l =
    let h : i < b * k = omega (arith, length-take-le (b * k) table room) in
    rw get_or-take (omega (arith, get_or_default table i d 0 (omega arith), below_at v k b table e i h))

-- ---- rules 8 and 9

pub disks_even_lem : (D : Design) (r : ℕ) → (disks_even D r ≡ true) ↔ ((d : ℕ) → d < D.v → before D D.b d ≡ r)
unfolding disks_even
disks_even_lem D r = (
  λ e d h. eqb-true (before D D.b d) r (every-at D.v even e d h),
  λ h. every_of D.v even (λ d l. eq-eqb (before D D.b d) r (h d l)),
)
  where
    even : ℕ → Bool
    even d = eqb (before D D.b d) r

pub pairs_even_lem : (D : Design) (lambda : ℕ) → (pairs_even D lambda ≡ true) ↔ ((d e : ℕ) → d < D.v → e < d → shared D D.b d e ≡ lambda)
unfolding pairs_even
pairs_even_lem D lambda = (
  λ t d e h l. eqb-true (shared D D.b d e) lambda (every-at d (even d) (every-at D.v (λ d. every d (even d)) t d h) e l),
  λ h. every_of D.v (λ d. every d (even d))
      (λ d m. every_of d (even d) (λ e l. eq-eqb (shared D D.b d e) lambda (h d e m l))),
)
  where
    even : ℕ → ℕ → Bool
    even d e = eqb (shared D D.b d e) lambda
