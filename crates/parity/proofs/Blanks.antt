-- A blank image keeps a memory of zeros, and where a whole image keeps a memory every stripe is right. Assumes nothing.
use mathlib.Core.Path.{◌≡◌, refl, sym, ap, ◌∙◌}
use mathlib.Core.Bool.{true}
use mathlib.Core.List.{List}
use Prim.Native.Nat.{ℕ, zero, suc, ◌+◌, ◌-◌, ◌*◌, ◌≤◌, ◌<◌}
use native.Mathlib.Omega.{arith}
use lib.ListN.{length, length-replicate, get_or-replicate}
use Rattle.design.specs.declared.Shelf.{Shelf}
use Rattle.design.specs.Loss.{is_whole}
use Rattle.design.specs.Shelf.{is_shelf}
use Rattle.placement.specs.Layout.{layout_in, stripes}
use Rattle.placement.proofs.Even.{even_shelf}
use Rattle.parity.specs.Units.{zeros, unit_at, xor_u, xor_sum, put}
use Rattle.parity.specs.Stripe.{unit_size, units, image_size, unit_in, cell}
use Rattle.parity.proofs.Cases.{put_each}
use Rattle.parity.proofs.Xor.{xor_u-zeros, xor_sum_ext}
use Rattle.parity.proofs.Put.{unit-byte, unit_ext}
use Rattle.parity.proofs.Image.{unit_fits, unit-length}
use Rattle.parity.proofs.Present.{whole-present}
use Rattle.parity.proofs.Home.{unit-lt}
use Rattle.parity.proofs.Rebuilt.{Right}
use Rattle.parity.proofs.Memory.{data_of, asked, Keeps, asked_right}

zeros-unit : (U N n : ℕ) → n < N → unit_at U (zeros (N * U)) n ≡ zeros U
zeros-unit U N n hn =
    let len : length (zeros (N * U)) ≡ N * U = length-replicate (N * U) 0 in
    let fits : n * U + U ≤ length (zeros (N * U)) = unit_fits U N (zeros (N * U)) len n hn in
    unit_ext U (unit_at U (zeros (N * U)) n) (zeros U) (unit-length U N (zeros (N * U)) len n hn) (length-replicate U 0)
    (λ z l. unit-byte U (zeros (N * U)) n z l ∙ get_or-replicate (N * U) (n * U + z) 0 0 (omega arith) ∙ sym (get_or-replicate U z 0 0 l))

zeros-sum : (U n : ℕ) → xor_sum U (λ i. zeros U) n ≡ zeros U
unfolding xor_sum
zeros-sum U zero = refl
zeros-sum U (suc n) = ap (λ (x : List ℕ). xor_u x (zeros U)) (zeros-sum U n) ∙ xor_u-zeros U (zeros U) (length-replicate U 0)

pub blank_keeps : (h : Shelf) → is_shelf h ≡ true → Keeps h (zeros (image_size h)) (λ a. zeros (unit_size h))
unfolding cell asked data_of
blank_keeps h ok = record {
  stored = record { shelf = ok; size = length-replicate (image_size h) 0 };
  sized = λ a. length-replicate (unit_size h) 0;
  same = λ s i hs hi p. zeros-unit (unit_size h) (units h) (unit_in h s i) (unit-lt h ok s i hs hi) ∙ sym (asks i);
}
  where
    asks : (i : ℕ) → put (λ i. zeros (unit_size h)) (h.k - 1) (xor_sum (unit_size h) (λ i. zeros (unit_size h)) (h.k - 1)) i ≡ zeros (unit_size h)
    asks i =
        put_each (λ i. zeros (unit_size h)) (h.k - 1) _ (λ (x : List ℕ). x ≡ zeros (unit_size h)) i (λ e. zeros-sum (unit_size h) (h.k - 1)) (λ e. refl)

pub whole_right : (h : Shelf) (image : List ℕ) (memory : ℕ → List ℕ) → Keeps h image memory → is_whole h.loss ≡ true → (s : ℕ) → s < stripes (layout_in h) → Right h image s
whole_right h image memory K whole s hs =
    xor_sum_ext (unit_size h) (cell h image s) (asked h memory s) h.k (λ i hi. K.same s i hs hi (whole-present h whole (unit_in h s i)))
    ∙ asked_right h memory s K.sized (omega (arith, (even_shelf h K.stored.shelf).k_least))
