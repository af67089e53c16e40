-- A loop that clears unit n of a row and mixes units into it, one in each turn. Assumes nothing.
use mathlib.Core.Path.{◌≡◌, refl, sym, ap, ap₂, ◌∙◌}
use mathlib.Core.Logic.{◌≢◌}
use mathlib.Core.List.{List}
use Prim.Native.Nat.{ℕ, ◌+◌, ◌*◌, ◌≤◌, ◌<◌}
use native.Mathlib.Numerals.{add-one}
use native.Mathlib.Omega.{arith}
use lib.ListN.{length, length-replicate}
use borrow.Author.Count.{below_none, below_more}
use Rattle.parity.specs.Units.{zeros, unit_at, xor_u, xor_sum, put}
use Rattle.parity.specs.inner.Stores.{put_unit}
use Rattle.parity.proofs.Xor.{xor_u-zeros, xor_sum_ext, xor_sum-length}
use Rattle.parity.proofs.Put.{put_size, put_here, put_there, put-again}

pub sum_next : (U : ℕ) (f : ℕ → List ℕ) (j : ℕ) → xor_sum U f (j + 1) ≡ xor_u (xor_sum U f j) (f j)
unfolding xor_sum
sum_next U f j = rw add-one

-- a unit of zeros may be passed over
pub sum_over : (U : ℕ) (f : ℕ → List ℕ) (j : ℕ) → length (xor_sum U f j) ≡ U → f j ≡ zeros U → xor_sum U f (j + 1) ≡ xor_sum U f j
sum_over U f j size e = sum_next U f j ∙ ap (xor_u (xor_sum U f j)) e ∙ xor_u-zeros U (xor_sum U f j) size

-- `now` is `was`, unit n of which is the exclusive-or of the first j units of f
pub record Summed (U : ℕ) (was : List ℕ) (n : ℕ) (f : ℕ → List ℕ) (now : List ℕ) (j : ℕ) : Type 0 where
  pub fits : n * U + U ≤ length was
  pub sized : (i : ℕ) → i < j → length (f i) ≡ U
  pub same : length now ≡ length was
  pub is : now ≡ put_unit U was n (xor_sum U f j)

module _ (U : ℕ) (was : List ℕ) (n : ℕ) (f : ℕ → List ℕ) where
  pub summed_none : (before : List ℕ) → n * U + U ≤ length before → was ≡ put_unit U before n (zeros U) → Summed U was n f was 0
  unfolding xor_sum
  summed_none before fits e =
      let size : length was ≡ length before = ap length e ∙ put_size U before n (zeros U) fits (length-replicate U 0) in
      record {
        fits = omega arith;
        sized = below_none _;
        same = refl;
        is = e ∙ sym (put-again U before n (zeros U) fits (length-replicate U 0) (zeros U)) ∙ ap (λ (l : List ℕ). put_unit U l n (zeros U)) (sym e);
      }

  module _ (now : List ℕ) (j : ℕ) (S : Summed U was n f now j) where
    sum_size : length (xor_sum U f j) ≡ U
    sum_size = xor_sum-length U f j S.sized

    pub summed_next : (after y : List ℕ) → length y ≡ U → y ≡ f j → after ≡ put_unit U now n (xor_u (unit_at U now n) y) → Summed U was n f after (j + 1)
    summed_next after y size e put =
        let here : unit_at U now n ≡ xor_sum U f j = ap (λ (l : List ℕ). unit_at U l n) S.is ∙ put_here U was n (xor_sum U f j) S.fits sum_size in
        let sized : (i : ℕ) → i < j + 1 → length (f i) ≡ U = below_more _ j S.sized (ap length (sym e) ∙ size) in
        let is : after ≡ put_unit U was n (xor_sum U f (j + 1)) =
        put
        ∙ ap₂ (λ (l x : List ℕ). put_unit U l n x) S.is (ap₂ xor_u here e ∙ sym (sum_next U f j))
        ∙ put-again U was n (xor_sum U f j) S.fits sum_size (xor_sum U f (j + 1)) in
        record {
          fits = S.fits;
          sized = sized;
          same = ap length is ∙ put_size U was n (xor_sum U f (j + 1)) S.fits (xor_sum-length U f (j + 1) sized);
          is = is;
        }

    pub summed_skip : f j ≡ zeros U → Summed U was n f now (j + 1)
    summed_skip e =
        record {
          fits = S.fits;
          sized = below_more _ j S.sized (ap length e ∙ length-replicate U 0);
          same = S.same;
          is = S.is ∙ ap (put_unit U was n) (sym (sum_over U f j sum_size e));
        }

    -- another unit is as it was
    pub summed_other : (m : ℕ) → m * U + U ≤ length was → m ≢ n → unit_at U now m ≡ unit_at U was m
    summed_other m fits ne = ap (λ (l : List ℕ). unit_at U l m) S.is ∙ put_there U was n (xor_sum U f j) S.fits sum_size m fits ne

    -- said of the row before unit n was touched
    pub summed_all : (before y : List ℕ) (g : ℕ → List ℕ) → n * U + U ≤ length before → length y ≡ U → was ≡ put_unit U before n y
        → ((i : ℕ) → i < j → f i ≡ g i) → now ≡ put_unit U before n (xor_sum U g j)
    summed_all before y g fits size e alike =
        S.is ∙ ap₂ (λ (l x : List ℕ). put_unit U l n x) e (xor_sum_ext U f g j alike) ∙ put-again U before n y fits size (xor_sum U g j)
