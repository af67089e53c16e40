-- The search for wrong stripes takes one stripe after another: the wrong ones before it are counted. Assumes nothing.
use mathlib.Core.Path.{◌≡◌, refl, sym, ap, ◌∙◌}
use mathlib.Core.Bool.{true, false, not}
use mathlib.Core.List.{List}
use Prim.Native.Nat.{ℕ, ◌+◌, ◌≤◌, ◌<◌}
use native.Mathlib.Nat.{le_antisymm}
use native.Mathlib.Numerals.{add-one}
use native.Mathlib.Omega.{arith}
use Rattle.design.specs.declared.Shelf.{Shelf}
use Rattle.design.specs.Count.{count}
use Rattle.design.proofs.Counting.{count_true, count_false, count-le}
use Rattle.placement.specs.Layout.{layout_in, stripes}
use Rattle.parity.specs.Units.{is_zero}
use Rattle.parity.specs.Stripe.{others, wrong}
use Rattle.parity.proofs.Places.{others-whole}

-- the wrong stripes before s are counted
pub record Searched (h : Shelf) (image : List ℕ) (s found : ℕ) : Type 0 where
  pub below : s ≤ stripes (layout_in h)
  pub counted : found ≡ count (wrong h image) s

pub searched_none : (h : Shelf) (image : List ℕ) → Searched h image 0 0
unfolding count
searched_none h image = record { below = omega arith; counted = refl }

module _ {h : Shelf} {image : List ℕ} {s found : ℕ} (S : Searched h image s found) where
  pub found_few : found ≤ s
  found_few = omega (arith, S.counted, count-le (wrong h image) s)

  pub searched_all : stripes (layout_in h) ≤ s → found ≡ count (wrong h image) (stripes (layout_in h))
  searched_all l = S.counted ∙ ap (count (wrong h image)) (le_antisymm S.below l)

  module _ (hs : s < stripes (layout_in h)) {x : List ℕ} (e : x ≡ others h image s h.k) where
    -- the exclusive-or of the whole stripe says whether it is wrong
    wrong_is : not (is_zero x) ≡ wrong h image s
    unfolding wrong
    wrong_is = ap (λ (l : List ℕ). not (is_zero l)) (e ∙ others-whole h image s)

    pub searched_wrong : not (is_zero x) ≡ true → Searched h image (s + 1) (found + 1)
    searched_wrong t =
        record {
          below = omega arith;
          counted = rw (S.counted, add-one s) (omega (arith, count_true (wrong h image) s (sym wrong_is ∙ t)));
        }

    pub searched_right : not (is_zero x) ≡ false → Searched h image (s + 1) found
    searched_right t =
        record { below = omega arith; counted = rw (S.counted, add-one s) (sym (count_false (wrong h image) s (sym wrong_is ∙ t))) }
