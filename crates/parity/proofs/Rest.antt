-- The exclusive-or of the first k of numbered units but one, gathered in a unit of its own. Assumes nothing.
use mathlib.Core.Path.{◌≡◌, sym, ap, ap₂, ◌∙◌}
use mathlib.Core.Logic.{◌≢◌}
use mathlib.Core.List.{List}
use Prim.Native.Nat.{ℕ, ◌+◌, ◌-◌, ◌*◌, ◌≤◌, ◌<◌}
use native.Mathlib.Omega.{arith}
use lib.ListN.{length, get_or, set, take, drop, length-replicate, length-drop}
use lib.Seq.{get_or-set_same, get_or-set_other, get_or-take, get_or-drop, length-take-le}
use borrow.Author.Count.{below_more}
use borrow.Author.Tests.{eq-eqb}
use Rattle.parity.specs.Units.{zeros, unit_at, xor_u, xor_sum, put}
use Rattle.parity.specs.inner.Stores.{put_unit}
use Rattle.parity.specs.inner.Blocks.{sum_with, rest_of, numbered, blocks_at, Within, Placed, Listed}
use Rattle.parity.proofs.Cases.{put_other, put_ext, put_each}
use Rattle.parity.proofs.Xor.{xor_u-length, xor_u_assoc, xor_sum_ext, xor_sum-length, xor_sum_past, xor_sum-put, xor_sum_without}
use Rattle.parity.proofs.Put.{unit_size, put_whole}
use Rattle.parity.proofs.Summing.{sum_next, sum_over}

module _ (U : ℕ) (row : List ℕ) (number : ℕ → ℕ) (k : ℕ) (fits : Within U number k (length row)) where
  pub rest_size : (i : ℕ) → length (rest_of U row number i k) ≡ U
  rest_size i =
      xor_sum-length U _ k
      (λ j h. put_each (λ m. unit_at U row (number m)) i (zeros U) (λ (x : List ℕ). length x ≡ U) j
      (λ e. length-replicate U 0)
      (λ ne. unit_size U row (number j) (fits j h)))

  -- with x for that one
  pub rest_with : (i : ℕ) (x : List ℕ) → i < k → length x ≡ U → xor_u (rest_of U row number i k) x ≡ xor_sum U (put (λ j. unit_at U row (number j)) i x) k
  rest_with i x l size =
      let f : ℕ → List ℕ = λ j. unit_at U row (number j) in
      let sized : length (f i) ≡ U = unit_size U row (number i) (fits i l) in
      ap (λ (w : List ℕ). xor_u w x) (xor_sum_without U f i k l sized) ∙ xor_u_assoc (xor_sum U f k) (f i) x ∙ sym (xor_sum-put U f i x k l (sized ∙ sym size))

-- ---- gathered, one in each turn

-- `unit` is the exclusive-or of the first j of them but unit i
pub record Gathered (U : ℕ) (row : List ℕ) (number : ℕ → ℕ) (i : ℕ) (unit : List ℕ) (j : ℕ) : Type 0 where
  pub size : length unit ≡ U
  pub is : unit ≡ rest_of U row number i j

module _ {U : ℕ} {row : List ℕ} {number : ℕ → ℕ} {i : ℕ} where
  pub gathered_none : {unit : List ℕ} → unit ≡ zeros U → Gathered U row number i unit 0
  unfolding xor_sum
  gathered_none e = record { size = ap length e ∙ length-replicate U 0; is = e }

  module _ {unit : List ℕ} {j : ℕ} (S : Gathered U row number i unit j) where
    pub gathered_next : {after : List ℕ} → number j * U + U ≤ length row → j ≢ i
        → after ≡ xor_u unit (unit_at (length unit) row (number j)) → Gathered U row number i after (j + 1)
    gathered_next {after} fits ne mixed =
        let here : after ≡ xor_u unit (unit_at U row (number j)) = rw S.size at mixed in
        record {
          size = ap length here ∙ xor_u-length U unit (unit_at U row (number j)) S.size (unit_size U row (number j) fits);
          is =
              here
              ∙ ap₂ xor_u S.is (sym (put_other (λ m. unit_at U row (number m)) i (zeros U) j ne))
              ∙ sym (sum_next U (put (λ m. unit_at U row (number m)) i (zeros U)) j);
        }

    pub gathered_over : j ≡ i → Gathered U row number i unit (j + 1)
    gathered_over e =
        record {
          size = S.size;
          is = S.is ∙ sym (sum_over U (put (λ m. unit_at U row (number m)) i (zeros U)) j (ap length (sym S.is) ∙ S.size) (rw (eq-eqb j i e)));
        }

    pub gathered_all : {k : ℕ} → j ≤ k → k ≤ j → unit ≡ rest_of U row number i k
    gathered_all {k} most least = let all : j ≡ k = omega arith in rw all at S.is

-- ---- the numbers in a list

-- one number more is written
pub listed_next : (numbers : List ℕ) (number : ℕ → ℕ) (j : ℕ) → Listed numbers number j → j < length numbers → {x : ℕ} → x ≡ number j → Listed (set numbers j x) number (j + 1)
listed_next numbers number j same l {x} e = below_more _ j (λ m h. get_or-set_other numbers j m x 0 (omega arith) ∙ same m h) (get_or-set_same numbers j x 0 l ∙ e)

-- of more numbers only the first m are taken
module _ (U : ℕ) (numbers : List ℕ) (m : ℕ) (most : m ≤ length numbers) (per q : ℕ) where
  pub front_within : (n : ℕ) → Within U (blocks_at (numbered numbers) per q) m n → Within U (blocks_at (numbered (take m numbers)) per q) (length (take m numbers)) n
  front_within n fits j l =
      let here : j < m = omega (arith, l, length-take-le m numbers most) in
      rw (get_or-take m numbers j 0 here) (fits j here)

  pub front_rest : (row : List ℕ) (i : ℕ)
      → rest_of U row (blocks_at (numbered (take m numbers)) per q) i (length (take m numbers)) ≡ rest_of U row (blocks_at (numbered numbers) per q) i m
  front_rest row i =
      rw (length-take-le m numbers most)
      (xor_sum_ext U _ _ m (λ j h. put_ext (λ n. unit_at U row (get_or (take m numbers) n 0 * per + q)) (λ n. unit_at U row (get_or numbers n 0 * per + q)) i (zeros U) j (λ ne. ap (λ (x : ℕ). unit_at U row (x * per + q)) (get_or-take m numbers j 0 h))))

-- the numbers from number b on
module _ (numbers : List ℕ) (b : ℕ) (most : b ≤ length numbers) where
  pub later_size : length (take (length numbers - b) (drop b numbers)) ≡ length numbers - b
  later_size = length-take-le _ (drop b numbers) (omega (arith, length-drop b numbers))

  pub later_at : (t : ℕ) → t < length numbers - b → get_or (take (length numbers - b) (drop b numbers)) t 0 ≡ get_or numbers (b + t) 0
  later_at t l = get_or-take _ (drop b numbers) t 0 l ∙ get_or-drop b numbers t 0

-- the first k of more
pub listed_front : (numbers : List ℕ) (number : ℕ → ℕ) (k : ℕ) → Listed numbers number k → Listed (take k numbers) number k
listed_front numbers number k same j l = get_or-take k numbers j 0 l ∙ same j l

module _ (numbers : List ℕ) (number : ℕ → ℕ) (k : ℕ) (size : length numbers ≡ k) (same : Listed numbers number k) where
  pub listed_within : (U n : ℕ) → Within U number k n → Within U (numbered numbers) (length numbers) n
  listed_within U n fits j l = rw (same j (omega arith)) (fits j (omega arith))

  pub listed_placed : (U n : ℕ) → Placed U number k n → Placed U (numbered numbers) (length numbers) n
  listed_placed U n P =
      record {
        within = listed_within U n P.within;
        apart = λ i j hi hj e. P.apart i j (omega arith) (omega arith) (sym (same i (omega arith)) ∙ e ∙ same j (omega arith));
      }

  listed_sum : (U : ℕ) (row : List ℕ) (i : ℕ) (x : List ℕ) (m : ℕ) → m ≤ k → sum_with U row (numbered numbers) i x m ≡ sum_with U row number i x m
  listed_sum U row i x m most =
      xor_sum_ext U _ _ m (λ j h. put_ext (λ n. unit_at U row (get_or numbers n 0)) (λ n. unit_at U row (number n)) i x j (λ ne. ap (unit_at U row) (same j (omega arith))))

  -- so it is done to the units: one is restored from the others, those but one are gathered in a unit of their own, the last one becomes
  -- the exclusive-or of the others with x for one of them, and that of all is stored in another row
  pub listed_rest : (U : ℕ) (row : List ℕ) (i : ℕ) → rest_of U row (numbered numbers) i (length numbers) ≡ rest_of U row number i k
  listed_rest U row i = rw size (listed_sum U row i (zeros U) k (omega arith))

  pub listed_restored : (U : ℕ) (row : List ℕ) (i : ℕ) → i < k → {after : List ℕ} → after ≡ put_unit U row (numbered numbers i) (rest_of U row (numbered numbers) i (length numbers))
      → after ≡ put_unit U row (number i) (rest_of U row number i k)
  listed_restored U row i l e = e ∙ ap₂ (put_unit U row) (same i l) (listed_rest U row i)

  pub listed_gathered : (U : ℕ) (row unit : List ℕ) (i : ℕ) → Within U number k (length row) → length unit ≡ U → {after : List ℕ}
      → after ≡ put_unit U unit 0 (rest_of U row (numbered numbers) i (length numbers)) → after ≡ rest_of U row number i k
  listed_gathered U row unit i fits sized e =
      e ∙ ap (put_unit U unit 0) (listed_rest U row i) ∙ put_whole U unit (rest_of U row number i k) sized (rest_size U row number k fits i)

  module _ (U : ℕ) (row : List ℕ) (i : ℕ) (x : List ℕ) (l : i < k - 1) {after : List ℕ} where
    pub listed_mixed : after ≡ put_unit U row (numbered numbers (length numbers - 1)) (sum_with U row (numbered numbers) i x (length numbers - 1))
        → after ≡ put_unit U row (number (k - 1)) (sum_with U row number i x (k - 1))
    listed_mixed e = (rw size at e) ∙ ap₂ (put_unit U row) (same (k - 1) (omega arith)) (listed_sum U row i x (k - 1) (omega arith))

    pub listed_resealed : Within U number k (length row) → length x ≡ U
        → after ≡ put_unit U row (numbered numbers (length numbers - 1)) (xor_u (rest_of U row (numbered numbers) i (length numbers - 1)) x)
        → after ≡ put_unit U row (number (k - 1)) (sum_with U row number i x (k - 1))
    listed_resealed fits sized e =
        (rw size at e)
        ∙ ap₂ (put_unit U row) (same (k - 1) (omega arith))
        (ap (λ (w : List ℕ). xor_u w x) (listed_sum U row i (zeros U) (k - 1) (omega arith)) ∙ rest_with U row number (k - 1) (λ j h. fits j (omega arith)) i x l sized)

  pub listed_sealed : (U : ℕ) (row to : List ℕ) (n : ℕ) → {after : List ℕ}
      → after ≡ put_unit U to n (rest_of U row (numbered numbers) k (length numbers)) → after ≡ put_unit U to n (xor_sum U (λ j. unit_at U row (number j)) k)
  listed_sealed U row to n e =
      e ∙ ap (put_unit U to n) (listed_rest U row k ∙ xor_sum_past U (λ j. unit_at U row (number j)) (zeros U) k)
