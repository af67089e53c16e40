-- The first line as it is written, v and then the other numbers word after word: each word is short. Assumes nothing.
use mathlib.Core.Path.{◌≡◌, refl, ap}
use mathlib.Core.Bool.{true, ◌&&◌}
use mathlib.Core.List.{List, [], ◌∷◌, ◌++◌, append_assoc}
use Prim.Native.Nat.{ℕ, zero, suc, ◌*◌, ◌^◌, ◌≤◌, ◌<◌}
use native.Mathlib.Nat.{le-mul_of_pos_right}
use native.Mathlib.Omega.{arith}
use lib.ListN.{length, get_or, length-append}
use lib.Pow.{pow_mono}
use Rattle.design.specs.declared.Shelf.{Shelf}
use Rattle.design.specs.Tuples.{holds, shared}
use Rattle.design.specs.Shelf.{design_in, is_shelf}
use Rattle.design.proofs.Counting.{count-le}
use Rattle.design.proofs.ShelfTests.{shelf_parts}
use Rattle.placement.proofs.Bounds.{often_most}
use Rattle.layout.specs.Text.{line_end, decimal, spaced, joined, first_line}
use Rattle.layout.proofs.Decimals.{digits_most}
use Rattle.layout.proofs.Joined.{joined_most}

-- the numbers after v, for unit size U, and the words of a list of numbers
abbrev pub later_numbers : Shelf → ℕ → List ℕ
later_numbers h U = h.k ∷ h.b ∷ h.r ∷ h.lambda ∷ h.T ∷ U ∷ []

abbrev pub number_word : List ℕ → ℕ → List ℕ
number_word numbers i = spaced (decimal (get_or numbers i 0))

abbrev pub first_text : Shelf → ℕ → List ℕ
first_text h U = decimal h.v ++ (joined 6 (number_word (later_numbers h U)) ++ line_end ∷ [])

regrouped : (v k b r lambda T U end : List ℕ) → v ++ (k ++ b ++ r ++ lambda ++ T ++ U ++ end) ≡ v ++ k ++ b ++ r ++ lambda ++ T ++ U ++ end
regrouped v k b r lambda T U end = simp append_assoc

pub first_is : (h : Shelf) (U : ℕ) → U ≡ 2 ^ h.u → first_text h U ≡ first_line h
unfolding first_line joined
first_is h U e =
    rw e (regrouped (decimal h.v) (spaced (decimal h.k)) (spaced (decimal h.b)) (spaced (decimal h.r)) (spaced (decimal h.lambda)) (spaced (decimal h.T)) (spaced (decimal (2 ^ h.u))) (line_end ∷ []))

-- ---- how long it is

-- none has more than five digits
record Small (numbers : List ℕ) : Type 0 where
  pub each : (i : ℕ) → get_or numbers i 0 ≤ 65535

one_more : (n : ℕ) {numbers : List ℕ} → n ≤ 65535 → Small numbers → Small (n ∷ numbers)
one_more n {numbers} l s = record { each = at }
  where
    at : (i : ℕ) → get_or (n ∷ numbers) i 0 ≤ 65535
    at zero = l
    at (suc i) = s.each i

module _ (h : Shelf) (e : is_shelf h ≡ true) (U : ℕ) (size : U ≡ 2 ^ h.u) where
  later_small : Small (later_numbers h U)
  unfolding shared
  later_small =
      let w = shelf_parts h e in
      let l = w.limits in
      let tuples : h.b ≤ h.b * h.k = le-mul_of_pos_right h.b (omega arith) in
      let pairs : h.lambda ≤ h.b = omega (arith, w.paired 1 0 (omega arith) (omega arith), count-le (λ q. holds (design_in h) q 1 && holds (design_in h) q 0) h.b) in
      let none : Small [] = record { each = λ i. omega arith } in
      let unit = one_more U (omega (arith, size, pow_mono l.u_most)) none in
      let T = one_more h.T (omega arith) unit in
      let lambda = one_more h.lambda (omega arith) T in
      let r = one_more h.r (omega (arith, often_most h e)) lambda in
      one_more h.k (omega arith) (one_more h.b (omega arith) r)

  word_most : (i : ℕ) → i < 6 → length (number_word (later_numbers h U) i) ≤ 6
  word_most i l = omega (arith, digits_most 4 (get_or (later_numbers h U) i 0) (omega (arith, later_small.each i)))

  pub text_most : length (first_text h U) ≤ 256
  text_most =
      let words : ℕ → List ℕ = number_word (later_numbers h U) in
      omega (
        arith,
        length-append (decimal h.v) (joined 6 words ++ line_end ∷ []),
        length-append (joined 6 words) (line_end ∷ []),
        digits_most 4 h.v (omega (arith, (shelf_parts h e).limits.v_most)),
        joined_most 6 6 words word_most,
      )

pub first_most : (h : Shelf) → is_shelf h ≡ true → length (first_line h) ≤ 256
first_most h e = omega (arith, ap length (first_is h (2 ^ h.u) refl), text_most h e (2 ^ h.u) refl)
