-- What the test of number 10 of document 01 says of a shelf value. Assumes nothing.
use mathlib.Core.Path.{◌≡◌, sym, ap, ◌∙◌}
use mathlib.Core.Logic.{◌⊎◌, inl, inr, ◌↔◌}
use mathlib.Core.Bool.{Bool, true, false, ◌&&◌, ◌||◌}
use mathlib.Core.List.{List, [], ◌∷◌}
use Prim.Native.Nat.{ℕ, ◌+◌, ◌-◌, ◌*◌, ◌≤◌, ◌<◌}
use native.Mathlib.Omega.{arith}
use lib.Bits.{bit_or, or_add_and, and_le_l, and_le_r}
use lib.Dec.{ltb, eqb}
use lib.ListN.{length, get_or, drop, length-drop}
use Rattle.std.proofs.lemmas.List.{get_or-drop, get_or_default}
use Rattle.std.proofs.lemmas.List.Sums.{AllPass-from_list_all, list_all-from_AllPass}
use Rattle.std.specs.List.{fold, list_all}
use Rattle.std.proofs.Math.Bool.{and-true, and_assoc}
use borrow.Author.Tests.{ltb-false, le-ltb, eq-eqb, eqb-true}
use Rattle.design.specs.declared.Shelf.{Shelf}
use Rattle.design.specs.Tuples.{before, shared, Different, disks_below, none_twice, disks_even, pairs_even}
use Rattle.design.specs.Sheet.{within_limits, Limits}
use Rattle.design.specs.Loss.{loss_below}
use Rattle.design.specs.Shelf.{design_in, zero_past, is_shelf}
use Rattle.design.specs.inner.Table.{is_table}
use Rattle.design.proofs.Counting.{decided, alike, both, both_of, every-at, every_of}
use Rattle.design.proofs.Tests.{joined, each_passes, limits, below_at, below_of, disks_even_lem, pairs_even_lem}
use Rattle.design.proofs.Twice.{twice}

-- ---- the shelf value

-- what two numbers come to by "or" is zero exactly when both are
pub or_zero : (a b : ℕ) → (bit_or a b ≡ 0) ↔ ((a ≡ 0) × (b ≡ 0))
or_zero a b = (λ e. omega (arith, or_add_and a b, and_le_l a b, and_le_r a b), λ e. omega (arith, or_add_and a b))

-- so the entries of a list come to zero exactly when each is zero
pub or_all : (xs : List ℕ) → eqb (fold bit_or 0 xs) 0 ≡ list_all (λ x. eqb x 0) xs
or_all xs = go 0 xs
  where
    or_zero_is : (a x : ℕ) → eqb (bit_or a x) 0 ≡ (eqb a 0 && eqb x 0)
    or_zero_is a x =
        alike (eqb (bit_or a x) 0) (eqb a 0 && eqb x 0)
        (λ t. let z = (or_zero a x).0 (eqb-true _ 0 t) in both_of (eq-eqb a 0 z.0) (eq-eqb x 0 z.1))
        (λ t. let z = both (eqb a 0) (eqb x 0) t in eq-eqb _ 0 ((or_zero a x).1 (eqb-true a 0 z.0, eqb-true x 0 z.1)))

    go : (a : ℕ) (xs : List ℕ) → eqb (fold bit_or a xs) 0 ≡ (eqb a 0 && list_all (λ x. eqb x 0) xs)
    go a [] = sym (and-true (eqb a 0))
    go a (x ∷ xs) = go (bit_or a x) xs ∙ ap (λ (t : Bool). t && list_all (λ x. eqb x 0) xs) (or_zero_is a x) ∙ and_assoc (eqb a 0) (eqb x 0) _

pub zero_past_lem : (table : List ℕ) (n : ℕ) → (zero_past table n ≡ true) ↔ ((i : ℕ) → n ≤ i → i < 2048 → get_or table i 0 ≡ 0)
unfolding zero_past
zero_past_lem table n = (zeros, tests)
  where
    zero_at : ℕ → Bool
    zero_at i = ltb i n || eqb (get_or table i 0) 0

    zeros : zero_past table n ≡ true → (i : ℕ) → n ≤ i → i < 2048 → get_or table i 0 ≡ 0
    zeros e i l h = eqb-true (get_or table i 0) 0 (rw (le-ltb i n l) at (every-at 2048 zero_at e i h))

    tests : ((i : ℕ) → n ≤ i → i < 2048 → get_or table i 0 ≡ 0) → zero_past table n ≡ true
    tests h = every_of 2048 zero_at (λ i l. at i l (decided (ltb i n)))
      where
        at : (i : ℕ) → i < 2048 → (ltb i n ≡ true) ⊎ (ltb i n ≡ false) → zero_at i ≡ true
        at i l (inl t) = rw t
        at i l (inr t) = rw t (eq-eqb (get_or table i 0) 0 (h i (ltb-false i n t) l))

-- the entries past n, lent as a slice
pub zero_past_part : (table : List ℕ) (n : ℕ) → length table ≡ 2048 → list_all (λ x. eqb x 0) (drop n table) ≡ zero_past table n
zero_past_part table n long =
    alike _ (zero_past table n)
    (λ e.
    (zero_past_lem table n).1
    (λ i l m.
    let at : n + (i - n) ≡ i = omega arith in
    let within : i - n < length (drop n table) = omega (arith, length-drop n table) in
    eqb-true _ 0 (rw (get_or-drop n table (i - n) 0, at) at (AllPass-from_list_all (λ x. eqb x 0) (drop n table) e (i - n) 0 within))))
    (λ t.
    list_all-from_AllPass (λ x. eqb x 0) (drop n table)
    (λ j d l.
    let within : n + j < 2048 = omega (arith, length-drop n table) in
    rw (get_or_default (drop n table) j d 0 l) (eq-eqb _ 0 (get_or-drop n table j 0 ∙ (zero_past_lem table n).0 t (n + j) (omega arith) within))))

-- number 10, in the document's words
pub record IsShelf (h : Shelf) : Type 0 where
  pub limits : Limits h.v h.k h.b h.T h.u
  pub zero : (i : ℕ) → h.b * h.k ≤ i → i < 2048 → get_or h.table i 0 ≡ 0
  pub below : (i : ℕ) → i < h.b * h.k → get_or h.table i 0 < h.v
  pub different : (q : ℕ) → q < h.b → Different ((design_in h).disk q) h.k
  pub often : (d : ℕ) → d < h.v → before (design_in h) h.b d ≡ h.r
  pub paired : (d e : ℕ) → d < h.v → e < d → shared (design_in h) h.b d e ≡ h.lambda
  pub loss : loss_below h.loss h.v ≡ true

-- the tests of number 10, in their order
abbrev pub shelf_tests : Shelf → List Bool
shelf_tests h =
    within_limits h.v h.k h.b h.T h.u
    ∷ zero_past h.table (h.b * h.k)
    ∷ disks_below (design_in h)
    ∷ none_twice (design_in h)
    ∷ disks_even (design_in h) h.r
    ∷ pairs_even (design_in h) h.lambda
    ∷ loss_below h.loss h.v
    ∷ []

pub shelf_passes : (h : Shelf) → is_shelf h ≡ true → (i : ℕ) → get_or (shelf_tests h) i true ≡ true
unfolding is_shelf joined
shelf_passes h e = (each_passes true (shelf_tests h) e).1

-- the tests on the table, between the limits and the loss
pub shelf_parted : (h : Shelf)
    → is_shelf h
    ≡ (within_limits h.v h.k h.b h.T h.u && is_table h.table h.v h.k h.b h.r h.lambda && loss_below h.loss h.v)
unfolding is_shelf
shelf_parted h = go (decided (within_limits h.v h.k h.b h.T h.u))
  where
    go : (within_limits h.v h.k h.b h.T h.u ≡ true) ⊎ (within_limits h.v h.k h.b h.T h.u ≡ false)
        → is_shelf h ≡ (within_limits h.v h.k h.b h.T h.u && is_table h.table h.v h.k h.b h.r h.lambda && loss_below h.loss h.v)
    go (inl e) = rw e
    go (inr e) = rw e

pub shelf_parts : (h : Shelf) → is_shelf h ≡ true → IsShelf h
shelf_parts h e =
    let at = shelf_passes h e in
    record {
      limits = (limits h.v h.k h.b h.T h.u).0 (at 0);
      zero = (zero_past_lem h.table (h.b * h.k)).0 (at 1);
      below = below_at h.v h.k h.b h.table (at 2);
      different = (twice (design_in h)).0 (at 3);
      often = (disks_even_lem (design_in h) h.r).0 (at 4);
      paired = (pairs_even_lem (design_in h) h.lambda).0 (at 5);
      loss = at 6;
    }

pub shelf-whole : (h : Shelf) → IsShelf h → is_shelf h ≡ true
unfolding is_shelf
shelf-whole h w =
    let D = design_in h in
    both_of
    (both_of
    (both_of
    (both_of
    (both_of
    (both_of ((limits h.v h.k h.b h.T h.u).1 w.limits) ((zero_past_lem h.table (h.b * h.k)).1 w.zero))
    (below_of h.v h.k h.b h.table w.below))
    ((twice D).1 w.different))
    ((disks_even_lem D h.r).1 w.often))
    ((pairs_even_lem D h.lambda).1 w.paired))
    w.loss
