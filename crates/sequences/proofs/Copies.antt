-- For each copy of the design a rebuild takes exactly lambda units of each other disk. Assumes nothing.
use mathlib.Core.Path.{◌≡◌, refl, sym, ap, ap₂, ◌∙◌}
use mathlib.Core.Logic.{◌≢◌}
use mathlib.Core.Bool.{Bool, true, ◌&&◌, and-true}
use Prim.Native.Nat.{ℕ, ◌+◌, ◌*◌, ◌/◌, ◌%◌, ◌<◌}
use native.Mathlib.Nat.{mod-lt, div-add-mod'}
use native.Mathlib.Omega.{arith}
use lib.Arith.{digits_lt, digits_div, digits_mod}
use lib.Dec.{eqb}
use borrow.Author.Tests.{eq-eqb, ne_eqb, eqb-true}
use Rattle.design.specs.declared.Shelf.{Shelf}
use Rattle.design.specs.Count.{count, nth}
use Rattle.design.specs.Tuples.{holds, before, shared}
use Rattle.design.specs.Shelf.{design_in, is_shelf}
use Rattle.design.proofs.Accepted.{pairs_alike}
use Rattle.design.proofs.Counting.{alike, both, both_of, count_ext}
use Rattle.design.proofs.Tests.{pairs_even_lem}
use Rattle.design.proofs.ShelfTests.{shelf_parts}
use Rattle.placement.specs.Layout.{Layout, layout_in, full_table_of, copy_of, tuple_at, stripe_at}
use Rattle.placement.proofs.Even.{Even, even_shelf}
use Rattle.placement.proofs.Row.{copy_lt, row}
use Rattle.placement.proofs.Rows.{count-nth}
use Rattle.placement.proofs.Undo.{row_there, tuple_there}
use Rattle.parity.specs.Stripe.{depth, units, disk_at, stripe_here}
use Rattle.parity.specs.Calls.{on_disk}
use Rattle.parity.proofs.Cases.{cases}
use Rattle.parity.proofs.Counting.{count-placed}
use Rattle.parity.proofs.Sets.{rebuild_set}
use Rattle.parity.proofs.UnitCounts.{disk-count}
use Rattle.sequences.specs.Copies.{taken_for}

-- ---- numbers of two digits

-- equal when their digits are
same_digits : (n t i s j : ℕ) → i < n → j < n → (eqb t s && eqb i j) ≡ eqb (t * n + i) (s * n + j)
same_digits n t i s j hi hj = alike _ _ one apart
  where
    one : (eqb t s && eqb i j) ≡ true → eqb (t * n + i) (s * n + j) ≡ true
    one e =
        let p = both (eqb t s) (eqb i j) e in
        eq-eqb _ _ (ap₂ (λ (x y : ℕ). x * n + y) (eqb-true t s p.0) (eqb-true i j p.1))

    apart : eqb (t * n + i) (s * n + j) ≡ true → (eqb t s && eqb i j) ≡ true
    apart e =
        let p : t * n + i ≡ s * n + j = eqb-true _ _ e in
        both_of
        (eq-eqb t s (sym (digits_div t hi) ∙ ap (λ (a : ℕ). a / n) p ∙ digits_div s hj))
        (eq-eqb i j (sym (digits_mod t hi) ∙ ap (λ (a : ℕ). a % n) p ∙ digits_mod s hj))

-- those of one row
row_count : (f : ℕ → Bool) (n g m : ℕ) → 0 < n → m < g → count (λ o. eqb (o / n) m && f (o % n)) (g * n) ≡ count f n
row_count f n g m pos hm =
    count-placed (λ o. eqb (o / n) m && f (o % n)) f (λ i. m * n + i) (λ o. o % n) n (g * n)
    (λ i hi. digits_lt hm hi) (λ o ho. mod-lt o pos) (λ i hi. digits_mod m hi)
    (λ o ho. alike _ _ (there o) (back o))
  where
    there : (o : ℕ) → (eqb (o / n) m && f (o % n)) ≡ true → (f (o % n) && eqb (m * n + o % n) o) ≡ true
    there o t =
        let p = both (eqb (o / n) m) (f (o % n)) t in
        both_of p.1 (eq-eqb _ o (ap (λ (x : ℕ). x * n + o % n) (sym (eqb-true (o / n) m p.0)) ∙ div-add-mod' o n))

    back : (o : ℕ) → (f (o % n) && eqb (m * n + o % n) o) ≡ true → (eqb (o / n) m && f (o % n)) ≡ true
    back o t =
        let p = both (f (o % n)) (eqb (m * n + o % n) o) t in
        both_of (eq-eqb _ m (ap (λ (x : ℕ). x / n) (sym (eqb-true _ o p.1)) ∙ digits_div m (mod-lt o pos))) p.0

-- ---- the units of disk e

module _ (h : Shelf) (ok : is_shelf h ≡ true) (t c d e : ℕ) (ht : t < h.T) (hc : c < h.k) (he : e < h.v) where
  abbrev L : Layout
  L = layout_in h

  E : Even L
  E = even_shelf h ok

  -- the test of a unit by its offset, and of an offset by its rank in its copy
  abbrev at : ℕ → Bool
  at o = eqb (full_table_of L (stripe_at L e o)) t && eqb (copy_of L (stripe_at L e o)) c && on_disk h (stripe_at L e o) d

  abbrev meets : ℕ → Bool
  meets i = holds L.design (nth (λ q. holds L.design q e) L.design.b i) d

  by_offset : (n : ℕ) → taken_for h t c d e n ≡ (eqb (disk_at h n) e && at (n % depth h))
  unfolding taken_for stripe_here
  by_offset n = cases (eqb (disk_at h n) e) (λ p. rw (p, eqb-true (disk_at h n) e p)) (λ p. rw p)

  by_rank : (o : ℕ) → at o ≡ (eqb (o / L.r) (t * L.design.k + c) && meets (o % L.r))
  unfolding tuple_at
  by_rank o =
      let s : ℕ = stripe_at L e o in
      ap₂ ◌&&◌
      (same_digits L.design.k (full_table_of L s) (copy_of L s) t c (copy_lt L E s) hc
      ∙ ap (λ (m : ℕ). eqb m (t * L.design.k + c)) (row L E s ∙ row_there L E e o he))
      (ap (λ (q : ℕ). holds L.design q d) (tuple_there L E e o he))

  pub copy_takes : (hd : d < h.v) → e ≢ d → count (taken_for h t c d e) (units h) ≡ h.lambda
  unfolding before shared
  copy_takes hd ne =
      count_ext _ _ (units h) (λ n l. by_offset n)
      ∙ disk-count h ok at e he
      ∙ count_ext _ _ (depth h) (λ o l. by_rank o)
      ∙ ap (count (λ o. eqb (o / L.r) (t * L.design.k + c) && meets (o % L.r))) (omega arith)
      ∙ row_count meets L.r (L.T * L.design.k) (t * L.design.k + c) E.r_pos (digits_lt ht hc)
      ∙ ap (count meets) (sym (E.often e he))
      ∙ count-nth (λ q. holds L.design q e) (λ q. holds L.design q d) L.design.b
      ∙ (pairs_alike (design_in h) h.lambda).0 ((pairs_even_lem (design_in h) h.lambda).1 (shelf_parts h ok).paired) e d he hd ne

-- the units that a rebuild takes are those that it takes for their copies
pub taken_for_its_copy : (h : Shelf) (d e n : ℕ) → e ≢ d
    → taken_for h (full_table_of (layout_in h) (stripe_here h n)) (copy_of (layout_in h) (stripe_here h n)) d e n ≡ rebuild_set h d e n
unfolding taken_for rebuild_set
taken_for_its_copy h d e n ne =
    let s : ℕ = stripe_here h n in
    rw (eq-eqb (full_table_of (layout_in h) s) (full_table_of (layout_in h) s) refl, eq-eqb (copy_of (layout_in h) s) (copy_of (layout_in h) s) refl, ne_eqb e d ne)
    (sym (ap (λ (b : Bool). b && on_disk h s d) (and-true (eqb (disk_at h n) e))))
