-- Numbered units mixed, one in each turn, into one of them that was cleared. Assumes nothing.
use mathlib.Core.Path.{◌≡◌, refl, sym, ap, ap₂, ◌∙◌}
use mathlib.Core.Logic.{◌≢◌}
use mathlib.Core.List.{List}
use Prim.Native.Nat.{ℕ, ◌+◌, ◌*◌, ◌≤◌, ◌<◌}
use native.Mathlib.Omega.{arith}
use lib.Dec.{eqb}
use lib.ListN.{length, length-replicate}
use borrow.Author.Tests.{eq-eqb}
use Rattle.parity.specs.Units.{zeros, unit_at, xor_u, xor_sum, put}
use Rattle.parity.specs.inner.Stores.{put_unit}
use Rattle.parity.specs.inner.Blocks.{Placed, sum_with}
use Rattle.parity.proofs.Cases.{cases, put_other, put_ext}
use Rattle.parity.proofs.Xor.{xor_sum_ext, xor_sum-length}
use Rattle.parity.proofs.Put.{unit_size, put_size, put_there, put-again}
use Rattle.parity.proofs.Summing.{Summed, summed_none, summed_next, summed_skip, summed_other, summed_all}

put-sized : {U : ℕ} (f : ℕ → List ℕ) (i : ℕ) (x : List ℕ) (n : ℕ) → length x ≡ U → length (f n) ≡ U → length (put f i x n) ≡ U
put-sized f i x n size e = cases (eqb n i) (λ h. rw h size) (λ h. rw h e)

-- ---- the units, mixed into unit t of them

abbrev unit_by : ℕ → (ℕ → ℕ) → List ℕ → ℕ → List ℕ
unit_by U number image i = unit_at U image (number i)

-- the units, with x for unit i
abbrev pub units_with : ℕ → (ℕ → ℕ) → ℕ → List ℕ → List ℕ → ℕ → List ℕ
units_with U number i x image = put (unit_by U number image) i x

-- unit t, whose number is `to`, is the exclusive-or of the first j of them
pub record StripeSum (U : ℕ) (number : ℕ → ℕ) (k t i : ℕ) (x : List ℕ) (to : ℕ) (was now : List ℕ) (j : ℕ) : Type 0 where
  pub placed : Placed U number k (length was)
  pub below : t < k
  pub named : to ≡ number t
  pub sum : Summed U was to (units_with U number i x was) now j

module _ {U : ℕ} {number : ℕ → ℕ} {k : ℕ} where
  pub place_fits : {n t to : ℕ} → Placed U number k n → t < k → to ≡ number t → to * U + U ≤ n
  place_fits P l e = rw e (P.within _ l)

  -- with any unit in place of unit t, the others are as they were
  kept : {t to : ℕ} (before y : List ℕ) {was : List ℕ} → Placed U number k (length before) → t < k → to ≡ number t → length y ≡ U
      → was ≡ put_unit U before to y → (n : ℕ) → n < k → n ≢ t → unit_by U number was n ≡ unit_by U number before n
  kept {t} before y P l e size stored n m ne =
      ap (λ (r : List ℕ). unit_by U number r n) stored
      ∙ put_there U before _ y (place_fits P l e) size _ (P.within n m) (λ same. ne (P.apart n t m l (same ∙ e)))

  module _ {t i : ℕ} {x : List ℕ} {to : ℕ} where
    pub stripe_none : (before : List ℕ) {was : List ℕ} → Placed U number k (length before) → t < k → to ≡ number t
        → was ≡ put_unit U before to (zeros U) → StripeSum U number k t i x to was was 0
    stripe_none before P l e cleared =
        let fits : to * U + U ≤ length before = place_fits P l e in
        record {
          placed = rw (ap length cleared ∙ put_size U before to (zeros U) fits (length-replicate U 0)) P;
          below = l;
          named = e;
          sum = summed_none _ _ to _ before fits cleared;
        }

    -- the first j are done already
    pub stripe_begun : (before : List ℕ) {was : List ℕ} {j : ℕ} → Placed U number k (length before) → t < k → to ≡ number t → length x ≡ U
        → j ≤ k → ((n : ℕ) → n < j → n ≢ i → n ≢ t) → was ≡ put_unit U before to (sum_with U before number i x j)
        → StripeSum U number k t i x to was was j
    stripe_begun before {was} {j} P l e sx most other begun =
        let fits : to * U + U ≤ length before = place_fits P l e in
        let f : ℕ → List ℕ = units_with U number i x before in
        let g : ℕ → List ℕ = units_with U number i x was in
        let sized : (n : ℕ) → n < j → length (f n) ≡ U = λ n m. put-sized (unit_by U number before) i x n sx (unit_size U before _ (P.within n (omega arith))) in
        let size : length (xor_sum U f j) ≡ U = xor_sum-length U f j sized in
        let same : length was ≡ length before = ap length begun ∙ put_size U before to (xor_sum U f j) fits size in
        let alike : (n : ℕ) → n < j → g n ≡ f n =
        λ n m. put_ext (unit_by U number was) (unit_by U number before) i x n (λ ne. kept before (xor_sum U f j) P l e size begun n (omega arith) (other n m ne)) in
        record {
          placed = rw same P;
          below = l;
          named = e;
          sum =
              record {
                fits = omega arith;
                sized = λ n m. ap length (alike n m) ∙ sized n m;
                same = refl;
                is =
                    begun
                    ∙ sym (put-again U before to (xor_sum U f j) fits size (xor_sum U f j))
                    ∙ ap₂ (λ (r y : List ℕ). put_unit U r to y) (sym begun) (sym (xor_sum_ext U g f j alike));
              };
        }

    module _ {was now : List ℕ} {j : ℕ} (S : StripeSum U number k t i x to was now j) where
      next : {after : List ℕ} → Summed U was to (units_with U number i x was) after (j + 1) → StripeSum U number k t i x to was after (j + 1)
      next sum = record { placed = S.placed; below = S.below; named = S.named; sum = sum }

      apart : {m from : ℕ} → m < k → from ≡ number m → m ≢ t → from ≢ to
      apart {m} l e ne same = ne (S.placed.apart m t l S.below (sym e ∙ same ∙ S.named))

      -- unit j is mixed in, which is not unit i
      pub stripe_next : {from : ℕ} {after : List ℕ} → j < k → from ≡ number j → j ≢ t → j ≢ i
          → after ≡ put_unit U now to (xor_u (unit_at U now to) (unit_at U now from))
          → StripeSum U number k t i x to was after (j + 1)
      stripe_next {from} {after} l e nt ni stored =
          let fits : from * U + U ≤ length was = place_fits S.placed l e in
          let same : unit_at U now from ≡ unit_at U was from = summed_other U was to _ now j S.sum from fits (apart l e nt) in
          next
          (summed_next U was to _ now j S.sum after (unit_at U now from)
          (ap length same ∙ unit_size U was from fits)
          (same ∙ ap (unit_at U was) e ∙ sym (put_other (unit_by U number was) i x j ni))
          stored)

      -- j is i: x is mixed in, or all zeros and passed over
      pub stripe-lent : {after : List ℕ} → j ≡ i → length x ≡ U
          → after ≡ put_unit U now to (xor_u (unit_at U now to) x) → StripeSum U number k t i x to was after (j + 1)
      stripe-lent {after} e size stored = next (summed_next _ was to _ now j S.sum after x size (rw (eq-eqb j i e)) stored)

      pub stripe_over : j ≡ i → x ≡ zeros U → StripeSum U number k t i x to was now (j + 1)
      stripe_over e zero = next (summed_skip _ was to _ now j S.sum (rw (eq-eqb j i e) zero))

      -- the end, said of the image before unit t was touched
      pub stripe-all : (before y : List ℕ) {m : ℕ} → Placed U number k (length before) → length y ≡ U → was ≡ put_unit U before to y
          → j ≤ m → m ≤ j → m ≤ k → ((n : ℕ) → n < m → n ≢ i → n ≢ t)
          → now ≡ put_unit U before (number t) (sum_with U before number i x m)
      stripe-all before y {m} P size stored most least room other =
          let all : j ≡ m = omega arith in
          summed_all U was to _ now m (rw all at S.sum) before y (units_with U number i x before) (place_fits P S.below S.named) size stored
          (λ n l. put_ext (unit_by U number was) (unit_by U number before) i x n (λ ni. kept before y P S.below S.named size stored n (omega arith) (other n l ni)))
          ∙ ap (λ (o : ℕ). put_unit U before o (sum_with U before number i x m)) S.named
