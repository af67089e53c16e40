-- One pass over the table that lists the entries of one disk. Assumes nothing.
use mathlib.Core.Path.{◌≡◌, refl, sym, ap, ◌∙◌}
use mathlib.Core.Bool.{true, false}
use mathlib.Core.List.{List}
use Prim.Native.Nat.{ℕ, suc, ◌+◌, ◌≤◌, ◌<◌}
use native.Mathlib.Numerals.{add-one}
use native.Mathlib.Omega.{arith}
use lib.ListN.{length, set, replicate, length-set, length-replicate}
use borrow.Author.Tests.{lt-ltb, le-ltb}
use Rattle.design.specs.Count.{count, nth}
use Rattle.design.proofs.Counting.{count_true, count_false, count-le}
use Rattle.design.proofs.Reading.{Filled, filled_none, filled_more}
use Rattle.placement.specs.Entries.{is_disk}
use Rattle.placement.proofs.PerEntry.{filled_ext}

-- of the first i entries, those of disk d in their order, and zeros
pub record Listing (table : List ℕ) (d i : ℕ) (entries : List ℕ) (found : ℕ) : Type 0 where
  pub size : length entries ≡ 2048
  pub found_is : found ≡ count (is_disk table d) i
  pub listed : Filled (nth (is_disk table d) i) found entries

pub listing_none : (table : List ℕ) (d : ℕ) → Listing table d 0 (replicate 2048 0) 0
unfolding count
listing_none table d = record { size = length-replicate {A = ℕ} 2048 0; found_is = refl; listed = filled_none _ }

pub listing_le : (table : List ℕ) (d i : ℕ) (entries : List ℕ) (found : ℕ) → Listing table d i entries found → found ≤ i
listing_le table d i entries found L = omega (arith, L.found_is, count-le (is_disk table d) i)

module _ (table : List ℕ) (d i : ℕ) (entries : List ℕ) (found : ℕ) (L : Listing table d i entries found) where
  earlier : (m : ℕ) → m < count (is_disk table d) i → nth (is_disk table d) i m ≡ nth (is_disk table d) (suc i) m
  unfolding nth
  earlier m h = rw (lt-ltb m (count (is_disk table d) i) h, nth)

  here : i ≡ nth (is_disk table d) (suc i) (count (is_disk table d) i)
  unfolding nth
  here = let h : count (is_disk table d) i ≤ count (is_disk table d) i = omega arith in rw (le-ltb (count (is_disk table d) i) (count (is_disk table d) i) h, nth)

  -- those that were found stand where they stood
  still : Filled (nth (is_disk table d) (suc i)) found entries
  still = filled_ext _ _ found entries (λ m h. earlier m (omega (arith, L.found_is))) L.listed

  pub listing_same : is_disk table d i ≡ false → Listing table d (i + 1) entries found
  listing_same e = rw add-one (record { size = L.size; found_is = L.found_is ∙ sym (count_false (is_disk table d) i e); listed = still })

  pub listing_more : is_disk table d i ≡ true → Listing table d (i + 1) (set entries found i) (found + 1)
  listing_more e = rw (add-one i) (record {
    size = length-set entries _ _ ∙ L.size;
    found_is = omega (arith, L.found_is, count_true (is_disk table d) i e);
    listed = filled_more _ found entries i L.size (here ∙ ap (nth (is_disk table d) (suc i)) (sym L.found_is)) still;
  })
