-- A memory gives a unit for each address. An image keeps it when each unit that is present is what the memory asks for: the
-- data as remembered, the parity the exclusive-or of its stripe's data. Then a read gives what is remembered. Assumes nothing.
use mathlib.Core.Path.{◌≡◌, sym, ap, ap₂, ◌∙◌}
use mathlib.Core.Logic.{◌≢◌}
use mathlib.Core.Bool.{true, false}
use mathlib.Core.List.{List}
use Prim.Native.Nat.{ℕ, suc, ◌+◌, ◌-◌, ◌*◌, ◌<◌}
use native.Mathlib.Nat.{div-add-mod'}
use native.Mathlib.Omega.{arith}
use lib.ListN.{length}
use Rattle.design.specs.declared.Shelf.{Shelf}
use Rattle.design.specs.Loss.{is_whole}
use Rattle.design.specs.Shelf.{is_shelf}
use Rattle.placement.specs.Layout.{layout_in, stripes, addresses, stripe_of, j_of}
use Rattle.placement.proofs.Even.{even_shelf}
use Rattle.placement.proofs.Stands.{j-lt, stripe_below}
use Rattle.parity.specs.Units.{zeros, unit_at, xor_u, xor_sum, put}
use Rattle.parity.specs.Stripe.{unit_size, units, unit_in, stripe_here, index_here, present, cell, others}
use Rattle.parity.specs.Calls.{fetched}
use Rattle.parity.specs.inner.Shapes.{Held}
use Rattle.parity.proofs.Cases.{cases, put_same, put_other, put_each, put_ext}
use Rattle.parity.proofs.Xor.{xor_u_self, xor_sum_ext, xor_sum-length, recover}
use Rattle.parity.proofs.Patch.{same_image}
use Rattle.parity.proofs.Present.{whole-present}
use Rattle.parity.proofs.Home.{stripe_here-lt, index_here-lt, beside_absent}
use Rattle.parity.proofs.Cells.{cell_home}

-- the data of stripe s
unfoldable pub data_of : Shelf → (ℕ → List ℕ) → ℕ → ℕ → List ℕ
data_of h memory s i = memory (s * (h.k - 1) + i)

-- the units of stripe s that the memory asks for
unfoldable pub asked : Shelf → (ℕ → List ℕ) → ℕ → ℕ → List ℕ
asked h memory s = put (data_of h memory s) (h.k - 1) (xor_sum (unit_size h) (data_of h memory s) (h.k - 1))

pub record Keeps (h : Shelf) (image : List ℕ) (memory : ℕ → List ℕ) : Type 0 where
  pub stored : Held h image
  pub sized : (a : ℕ) → length (memory a) ≡ unit_size h
  pub same : (s i : ℕ) → s < stripes (layout_in h) → i < h.k → present h (unit_in h s i) ≡ true → cell h image s i ≡ asked h memory s i

-- ---- what the memory asks for

module _ (h : Shelf) (memory : ℕ → List ℕ) (s : ℕ) where
  pub asked_data : (i : ℕ) → i ≢ h.k - 1 → asked h memory s i ≡ data_of h memory s i
  unfolding asked
  asked_data i ne = put_other (data_of h memory s) (h.k - 1) _ i ne

  pub asked-parity : asked h memory s (h.k - 1) ≡ xor_sum (unit_size h) (data_of h memory s) (h.k - 1)
  unfolding asked
  asked-parity = put_same (data_of h memory s) (h.k - 1) _

  module _ (sized : (a : ℕ) → length (memory a) ≡ unit_size h) where
    pub data_length : (i : ℕ) → length (data_of h memory s i) ≡ unit_size h
    unfolding data_of
    data_length i = sized (s * (h.k - 1) + i)

    sum-length : length (xor_sum (unit_size h) (data_of h memory s) (h.k - 1)) ≡ unit_size h
    sum-length = xor_sum-length (unit_size h) (data_of h memory s) (h.k - 1) (λ i l. data_length i)

    pub asked-length : (i : ℕ) → length (asked h memory s i) ≡ unit_size h
    unfolding asked
    asked-length i =
        put_each (data_of h memory s) (h.k - 1) _ (λ (x : List ℕ). length x ≡ unit_size h) i (λ e. sum-length) (λ e. data_length i)

    -- it asks for right stripes
    pub asked_right : 0 < h.k → xor_sum (unit_size h) (asked h memory s) h.k ≡ zeros (unit_size h)
    unfolding xor_sum
    asked_right hk =
        let k_is : h.k ≡ suc (h.k - 1) = omega arith in
        ap (xor_sum (unit_size h) (asked h memory s)) k_is
        ∙ ap₂ xor_u (xor_sum_ext (unit_size h) (asked h memory s) (data_of h memory s) (h.k - 1) (λ i l. asked_data i (omega arith))) asked-parity
        ∙ xor_u_self (xor_sum (unit_size h) (data_of h memory s) (h.k - 1))
        ∙ ap zeros sum-length

-- ---- read

module _ (h : Shelf) (image : List ℕ) (memory : ℕ → List ℕ) (K : Keeps h image memory) where
  ok : is_shelf h ≡ true
  ok = K.stored.shelf

  k_pos : 0 < h.k
  k_pos = omega (arith, (even_shelf h ok).k_least)

  -- the others of a lost unit come to what the memory asks for in its place
  pub others-asked : (s i : ℕ) → s < stripes (layout_in h) → i < h.k → present h (unit_in h s i) ≡ false → others h image s i ≡ asked h memory s i
  unfolding others
  others-asked s i hs hi e =
      xor_sum_ext (unit_size h) (put (cell h image s) i (zeros (unit_size h))) (put (asked h memory s) i (zeros (unit_size h))) h.k each
      ∙ recover (unit_size h) (asked h memory s) i h.k hi (asked-length h memory s K.sized i) (asked_right h memory s K.sized k_pos)
    where
      each : (j : ℕ) → j < h.k → put (cell h image s) i (zeros (unit_size h)) j ≡ put (asked h memory s) i (zeros (unit_size h)) j
      each j hj = put_ext (cell h image s) (asked h memory s) i (zeros (unit_size h)) j (λ ne. K.same s j hs hj (beside_absent h ok s i j hs hi hj e ne))

  pub fetched-asked : (s i : ℕ) → s < stripes (layout_in h) → i < h.k → fetched h image s i ≡ asked h memory s i
  unfolding fetched
  fetched-asked s i hs hi =
      cases (present h (unit_in h s i)) (λ e. rw e (K.same s i hs hi e)) (λ e. rw e (others-asked s i hs hi e))

  pub reads_memory : (a : ℕ) → a < addresses (layout_in h) → fetched h image (stripe_of (layout_in h) a) (j_of (layout_in h) a) ≡ memory a
  unfolding data_of
  reads_memory a l =
      let j = j_of (layout_in h) a in
      let hj : j < h.k - 1 = j-lt (layout_in h) (even_shelf h ok) a in
      fetched-asked (stripe_of (layout_in h) a) j ((stripe_below (layout_in h) (even_shelf h ok) a).1 l) (omega arith)
      ∙ asked_data h memory (stripe_of (layout_in h) a) j (omega arith)
      ∙ ap memory (div-add-mod' a (h.k - 1))

-- with no disk lost, the memory determines the image
pub memory_determines : (h : Shelf) (memory : ℕ → List ℕ) (a b : List ℕ) → is_whole h.loss ≡ true → Keeps h a memory → Keeps h b memory → a ≡ b
memory_determines h memory a b whole A B = same_image h a b A.stored.size B.stored.size each
  where
    each : (n : ℕ) → n < units h → unit_at (unit_size h) a n ≡ unit_at (unit_size h) b n
    each n hn =
        let ok = A.stored.shelf in
        let hs = stripe_here-lt h ok n hn in
        let hi = index_here-lt h ok n hn in
        let here = whole-present h whole (unit_in h (stripe_here h n) (index_here h n)) in
        sym (cell_home h ok a A.stored.size n hn)
        ∙ A.same (stripe_here h n) (index_here h n) hs hi here
        ∙ sym (B.same (stripe_here h n) (index_here h n) hs hi here)
        ∙ cell_home h ok b B.stored.size n hn
