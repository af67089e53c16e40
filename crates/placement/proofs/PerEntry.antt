-- A number for each entry of the table: what the passes over the table give, entry by entry. Assumes nothing.
use mathlib.Core.Path.{◌≡◌, sym, ap, ◌∙◌}
use mathlib.Core.Logic.{◌⊎◌, inl, inr}
use mathlib.Core.Bool.{true, false, cond}
use mathlib.Core.List.{List}
use Prim.Native.Nat.{ℕ, ◌≤◌, ◌<◌}
use native.Mathlib.Nat.{zero-add}
use native.Mathlib.Omega.{arith}
use lib.Dec.{ltb}
use lib.ListN.{length, get_or}
use lib.Seq.{ext_get_or}
use borrow.Author.Tests.{lt-ltb, ltb-true}
use Rattle.design.specs.Count.{count, nth}
use Rattle.design.specs.Sheet.{table_size}
use Rattle.design.proofs.Counting.{decided, count-le, length-list_from, get_or-list_from}
use Rattle.design.proofs.Reading.{Filled}
use Rattle.placement.specs.Entries.{is_disk, per_entry, rank_in, ranks_of, entries_of}

module _ (n : ℕ) (f : ℕ → ℕ) where
  filled : Filled f n (per_entry n f)
  filled j l = get_or-list_from 0 table_size _ j l ∙ ap (λ (i : ℕ). cond (ltb i n) (f i) 0) (zero-add j)

  at_entry : {list : List ℕ} → list ≡ per_entry n f → n ≤ table_size → (i : ℕ) → i < n → get_or list i 0 ≡ f i
  at_entry e fits i l = ap (λ (list : List ℕ). get_or list i 0) e ∙ rw (lt-ltb i n l) at (filled i (omega arith))

  pub filled_per_entry : (list : List ℕ) → length list ≡ table_size → Filled f n list → list ≡ per_entry n f
  filled_per_entry list size h =
      ext_get_or 0 list (per_entry n f) (size ∙ sym (length-list_from 0 table_size _)) (λ j l. let m : j < table_size = omega arith in h j m ∙ sym (filled j m))

-- of two numbers that agree below n either fills the list
pub filled_ext : (f g : ℕ → ℕ) (n : ℕ) (list : List ℕ) → ((i : ℕ) → i < n → f i ≡ g i) → Filled f n list → Filled g n list
filled_ext f g n list same h j l = h j l ∙ go (decided (ltb j n))
  where
    go : (ltb j n ≡ true) ⊎ (ltb j n ≡ false) → cond (ltb j n) (f j) 0 ≡ cond (ltb j n) (g j) 0
    go (inl e) = rw e (same j (ltb-true j n e))
    go (inr e) = rw e

-- ---- what the callers look at

pub ranks_at : (table : List ℕ) (n : ℕ) {ranks : List ℕ} → ranks ≡ ranks_of table n → n ≤ table_size → (i : ℕ) → i < n → get_or ranks i 0 ≡ rank_in table i
unfolding ranks_of
ranks_at table n e fits = at_entry n (rank_in table) e fits

pub entries_at : (table : List ℕ) (n d : ℕ) {entries : List ℕ} → entries ≡ entries_of table n d → n ≤ table_size
    → (m : ℕ) → m < count (is_disk table d) n → get_or entries m 0 ≡ nth (is_disk table d) n m
unfolding entries_of
entries_at table n d e fits = at_entry (count (is_disk table d) n) (nth (is_disk table d) n) e (omega (arith, count-le (is_disk table d) n))
