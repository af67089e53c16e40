-- A shelf's table entry by entry and tuple by tuple: as no tuple has a disk twice, a disk stands in as many entries as tuples.
-- Assumes nothing.
use mathlib.Core.Path.{◌≡◌, refl, sym, ap, ◌∙◌}
use mathlib.Core.Logic.{◌⊎◌, inl, inr}
use mathlib.Core.Bool.{Bool, true, false, cond}
use mathlib.Core.List.{List}
use Prim.Native.Nat.{ℕ, zero, suc, ◌+◌, ◌*◌, ◌/◌, ◌%◌, ◌≤◌, ◌<◌}
use native.Mathlib.Nat.{div-add-mod', mod-lt, div-lt_iff_lt-mul}
use native.Mathlib.Numerals.{add-one}
use native.Mathlib.Omega.{arith}
use lib.Dec.{eqb}
use lib.ListN.{length, get_or, take}
use Rattle.std.specs.Prelude.{◌==◌, count_by}
use Rattle.std.proofs.lemmas.List.Sums.{count_by_more_yes, count_by_more_no}
use lib.Seq.{get_or-take, length-take-le, take-take}
use borrow.Author.Tests.{eq-eqb, eqb-true}
use Rattle.design.specs.declared.Shelf.{Shelf}
use Rattle.design.specs.Count.{count, nth}
use Rattle.design.specs.Tuples.{holds, before}
use Rattle.design.specs.Shelf.{design_in, is_shelf}
use Rattle.design.proofs.Counting.{decided, fails, count_true, count_false, count_add, count_none, Nth, nth_is, nth-count}
use Rattle.design.proofs.Sums.{sum_ext, count-sum}
use Rattle.design.proofs.Design.{has-once}
use Rattle.placement.specs.Entries.{is_disk}
use Rattle.placement.specs.Layout.{layout_in, tuple_at, stripe_at, position_at}
use Rattle.placement.proofs.Held.{holds-disk}
use Rattle.placement.proofs.Even.{Even, even_shelf}
use Rattle.placement.proofs.Rows.{count_rows}

-- a part of the table has as many entries of a disk as the count up to its end
pub counted : (table : List ℕ) (d n : ℕ) → n ≤ length table → count_by (λ entry. entry == d) (take n table) ≡ count (is_disk table d) n
unfolding count
counted table d zero h = refl
counted table d (suc n) h = go (decided (is_disk table d n)) (counted table d n (omega arith))
  where
    more : count_by (λ entry. entry == d) (take (suc n) table) ≡ count_by (λ entry. entry == d) (take (n + 1) table)
    more = ap (λ (m : ℕ). count_by (λ entry. entry == d) (take m table)) (sym (add-one n))

    go : (is_disk table d n ≡ true) ⊎ (is_disk table d n ≡ false) → count_by (λ entry. entry == d) (take n table) ≡ count (is_disk table d) n
        → count_by (λ entry. entry == d) (take (suc n) table) ≡ count (is_disk table d) (suc n)
    go (inl e) so_far = omega (arith, more, count_by_more_yes (λ entry. entry == d) table n 0 (omega arith) e, count_true (is_disk table d) n e)
    go (inr e) so_far = omega (arith, more, count_by_more_no (λ entry. entry == d) table n 0 (omega arith) e, count_false (is_disk table d) n e)

-- the entry of the first n that is the disk and has m such before it
pub entry_nth : (table : List ℕ) (d n m i : ℕ) → n ≤ length table → i < length (take n table) → get_or (take n table) i 0 ≡ d
    → count_by (λ entry. entry == d) (take i (take n table)) ≡ m → i ≡ nth (is_disk table d) n m
entry_nth table d n m i h below found rank_there =
    let l : i < n = omega (arith, length-take-le n table h) in
    let rank : count (is_disk table d) i ≡ m = sym (counted table d i (omega arith)) ∙ rw (take-take i n table (omega arith)) at rank_there in
    sym (nth-count (is_disk table d) n i l (eq-eqb _ d (sym (get_or-take n table i 0 l) ∙ found))) ∙ ap (nth (is_disk table d) n) rank

module _ (h : Shelf) (e : is_shelf h ≡ true) where
  E : Even (layout_in h)
  E = even_shelf h e

  -- ---- counting

  -- up to a tuple
  pub times_before : (q d : ℕ) → q ≤ h.b → count (is_disk h.table d) (q * h.k) ≡ before (design_in h) q d
  unfolding before holds
  times_before q d l =
      count_rows (is_disk h.table d) h.k q
      ∙ sum_ext _ (λ i. cond (holds (design_in h) i d) 1 0) q (λ i m. has-once ((design_in h).disk i) h.k d (E.different i (omega arith)))
      ∙ sym (count-sum (λ i. holds (design_in h) i d) q)

  -- a disk of a tuple stands at no earlier position of it
  first_there : (q p d : ℕ) → q < h.b → p < h.k → (design_in h).disk q p ≡ d → count (λ x. eqb ((design_in h).disk q x) d) p ≡ 0
  first_there q p d hq hp at =
      count_none (λ x. eqb ((design_in h).disk q x) d) p
      (λ x l. fails (eqb ((design_in h).disk q x) d) (λ t. let same = E.different q hq x p (omega arith) hp (eqb-true _ d t ∙ sym at) in omega arith))

  -- up to an entry that is the disk
  pub rank_before : (q p d : ℕ) → q < h.b → p < h.k → (design_in h).disk q p ≡ d
      → count (is_disk h.table d) (q * h.k + p) ≡ before (design_in h) q d
  rank_before q p d hq hp at =
      count_add (is_disk h.table d) (q * h.k) p ∙ omega (arith, times_before q d (omega arith), first_there q p d hq hp at)

  -- ---- finding

  pub some_left : (d o : ℕ) → d < h.v → o % h.r < count (is_disk h.table d) (h.b * h.k)
  some_left d o hd = omega (arith, mod-lt o E.r_pos, times_before h.b d (omega arith), E.often d hd)

  -- entry i is that of what stands at offset o of disk d
  module _ (d o i : ℕ) (hd : d < h.v) (is : i ≡ nth (is_disk h.table d) (h.b * h.k) (o % h.r)) where
    found : Nth (is_disk h.table d) (h.b * h.k) (o % h.r) i
    found = rw is (nth_is (is_disk h.table d) (h.b * h.k) (o % h.r) (some_left d o hd))

    k_pos : 0 < h.k
    k_pos = omega (arith, E.k_least)

    tuple-lt : i / h.k < h.b
    tuple-lt = (div-lt_iff_lt-mul k_pos).1 found.below

    position-lt : i % h.k < h.k
    position-lt = mod-lt i k_pos

    disk_is : (design_in h).disk (i / h.k) (i % h.k) ≡ d
    disk_is = ap (λ (n : ℕ). get_or h.table n 0) (div-add-mod' i h.k) ∙ eqb-true _ d found.passes

    rank_is : before (design_in h) (i / h.k) d ≡ o % h.r
    rank_is =
        sym (rank_before (i / h.k) (i % h.k) d tuple-lt position-lt disk_is) ∙ ap (count (is_disk h.table d)) (div-add-mod' i h.k) ∙ found.rank

    held : holds (design_in h) (i / h.k) d ≡ true
    held = rw disk_is at (holds-disk (design_in h) (i / h.k) (i % h.k) position-lt)

    tuple-found : tuple_at (layout_in h) d o ≡ i / h.k
    unfolding tuple_at before
    tuple-found =
        ap (nth (λ q. holds (design_in h) q d) h.b) (sym rank_is) ∙ nth-count (λ q. holds (design_in h) q d) h.b (i / h.k) tuple-lt held

    pub stripe-found : stripe_at (layout_in h) d o ≡ o / h.r * h.b + i / h.k
    unfolding stripe_at
    stripe-found = ap (λ (q : ℕ). o / h.r * h.b + q) tuple-found

    pub position-found : position_at (layout_in h) d o ≡ i % h.k
    unfolding position_at
    position-found =
        let f : ℕ → Bool = λ p. eqb ((design_in h).disk (i / h.k) p) d in
        let first : count f (i % h.k) ≡ 0 = first_there (i / h.k) (i % h.k) d tuple-lt position-lt disk_is in
        rw tuple-found (ap (nth f h.k) (sym first) ∙ nth-count f h.k (i % h.k) position-lt (eq-eqb _ d disk_is))
