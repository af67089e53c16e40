-- A unit write makes an image that keeps a memory keep the memory with that address changed, and a stripe write the memory with
-- that stripe's addresses changed, whichever disk is lost. Assumes nothing.
use mathlib.Core.Path.{◌≡◌, refl, sym, ap, ap₂, ◌∙◌}
use mathlib.Core.Logic.{◌≢◌}
use mathlib.Core.Bool.{true, false, cond, ◌&&◌}
use mathlib.Core.List.{List}
use Prim.Native.Nat.{ℕ, ◌+◌, ◌-◌, ◌*◌, ◌/◌, ◌%◌, ◌<◌}
use native.Mathlib.Omega.{arith}
use lib.Arith.{digits_div, digits_mod}
use lib.Dec.{eqb}
use lib.ListN.{length}
use borrow.Author.Tests.{eq-eqb, ne_eqb, eqb-true, eqb-false}
use Rattle.design.specs.declared.Shelf.{Shelf}
use Rattle.design.specs.Shelf.{is_shelf}
use Rattle.design.proofs.Counting.{alike, both, both_of}
use Rattle.placement.specs.Layout.{layout_in, stripes, stripe_of, j_of}
use Rattle.placement.proofs.Even.{even_shelf}
use Rattle.placement.proofs.Stands.{j-lt}
use Rattle.parity.specs.Units.{unit_at, xor_u, xor_sum, put}
use Rattle.parity.specs.Stripe.{unit_size, unit_in, present, cell}
use Rattle.parity.specs.Calls.{new_parity, unit_written, with_parity, stripe_written}
use Rattle.parity.proofs.Cases.{cases, put_same, put_other, put_each, put_ext}
use Rattle.parity.proofs.Xor.{xor_sum_ext, xor_sum-put}
use Rattle.parity.proofs.Image.{unit-length}
use Rattle.parity.proofs.Home.{beside_absent}
use Rattle.parity.proofs.Written.{unit-written-length, data_written, parity-written, away_kept, beside_kept, stripe-written, stripe-written-length}
use Rattle.parity.proofs.Memory.{data_of, asked, Keeps, asked_data, asked-parity, data_length}

-- ---- another memory

-- one that has the same data of stripe t asks for the same units
pub asked_same : (h : Shelf) (memory memory' : ℕ → List ℕ) (t : ℕ) → ((i : ℕ) → i < h.k - 1 → data_of h memory' t i ≡ data_of h memory t i)
    → (i : ℕ) → i < h.k → asked h memory' t i ≡ asked h memory t i
unfolding asked
asked_same h memory memory' t same i hi = cases (eqb i (h.k - 1))
    (λ e. rw e (xor_sum_ext (unit_size h) (data_of h memory' t) (data_of h memory t) (h.k - 1) same))
    (λ e. let ne : i ≢ h.k - 1 = eqb-false i (h.k - 1) e in rw e (same i (omega arith)))

-- ---- unit write

module _ (h : Shelf) (image : List ℕ) (memory : ℕ → List ℕ) (K : Keeps h image memory)
    (s j : ℕ) (x : List ℕ) (hs : s < stripes (layout_in h)) (hj : j < h.k - 1) (hx : length x ≡ unit_size h) where
  -- the memory with x at the address
  abbrev memory' : ℕ → List ℕ
  memory' = put memory (s * (h.k - 1) + j) x

  same_address : (t i : ℕ) → i < h.k - 1 → eqb (t * (h.k - 1) + i) (s * (h.k - 1) + j) ≡ (eqb t s && eqb i j)
  same_address t i hi = alike _ _ apart one
    where
      one : (eqb t s && eqb i j) ≡ true → eqb (t * (h.k - 1) + i) (s * (h.k - 1) + j) ≡ true
      one e =
          let p = both (eqb t s) (eqb i j) e in
          eq-eqb _ _ (ap₂ (λ (m n : ℕ). m * (h.k - 1) + n) (eqb-true t s p.0) (eqb-true i j p.1))

      apart : eqb (t * (h.k - 1) + i) (s * (h.k - 1) + j) ≡ true → (eqb t s && eqb i j) ≡ true
      apart e =
          let p : t * (h.k - 1) + i ≡ s * (h.k - 1) + j = eqb-true _ _ e in
          both_of
          (eq-eqb t s (sym (digits_div t hi) ∙ ap (λ (a : ℕ). a / (h.k - 1)) p ∙ digits_div s hj))
          (eq-eqb i j (sym (digits_mod t hi) ∙ ap (λ (a : ℕ). a % (h.k - 1)) p ∙ digits_mod s hj))

  data_own : (i : ℕ) → i < h.k - 1 → data_of h memory' s i ≡ put (data_of h memory s) j x i
  unfolding data_of
  data_own i hi = rw (same_address s i hi, eq-eqb s s refl)

  data_away : (t : ℕ) → t ≢ s → (i : ℕ) → i < h.k - 1 → data_of h memory' t i ≡ data_of h memory t i
  unfolding data_of
  data_away t ne i hi = rw (same_address t i hi, ne_eqb t s ne)

  -- the data as remembered, where they are present
  own_data : (i : ℕ) → i < h.k - 1 → present h (unit_in h s i) ≡ true → cell h image s i ≡ data_of h memory s i
  own_data i hi e = K.same s i hs (omega arith) e ∙ asked_data h memory s i (omega arith)

  parity-asked : present h (unit_in h s (h.k - 1)) ≡ true → new_parity h image s j x ≡ asked h memory' s (h.k - 1)
  unfolding new_parity
  parity-asked q = cases (present h (unit_in h s j)) here lost ∙ sym asks
    where
      asks : asked h memory' s (h.k - 1) ≡ xor_sum (unit_size h) (put (data_of h memory s) j x) (h.k - 1)
      asks = asked-parity h memory' s ∙ xor_sum_ext (unit_size h) (data_of h memory' s) (put (data_of h memory s) j x) (h.k - 1) data_own

      here : present h (unit_in h s j) ≡ true → new_parity h image s j x ≡ xor_sum (unit_size h) (put (data_of h memory s) j x) (h.k - 1)
      here p =
          rw p
          (ap₂ (λ (y z : List ℕ). xor_u y (xor_u z x)) (K.same s (h.k - 1) hs (omega arith) q ∙ asked-parity h memory s) (own_data j hj p)
          ∙ sym (xor_sum-put (unit_size h) (data_of h memory s) j x (h.k - 1) hj (data_length h memory s K.sized j ∙ sym hx)))

      lost : present h (unit_in h s j) ≡ false → new_parity h image s j x ≡ xor_sum (unit_size h) (put (data_of h memory s) j x) (h.k - 1)
      lost p =
          rw p
          (xor_sum_ext (unit_size h) (put (cell h image s) j x) (put (data_of h memory s) j x) (h.k - 1)
          (λ i hi. put_ext (cell h image s) (data_of h memory s) j x i
          (λ ne. own_data i hi (beside_absent h K.stored.shelf s j i hs (omega arith) (omega arith) p ne))))

  pub unit_write_remembered : Keeps h (unit_written h image s j x) (put memory (s * (h.k - 1) + j) x)
  unit_write_remembered = record {
    stored = record { shelf = K.stored.shelf; size = unit-written-length h K.stored.shelf image K.stored.size s j x hs hj hx };
    sized = λ a. put_each memory (s * (h.k - 1) + j) x (λ (y : List ℕ). length y ≡ unit_size h) a (λ e. hx) (λ e. K.sized a);
    same = λ t i ht hi p. cases (eqb t s) (own t i hi p) (away t i ht hi p);
  }
    where
      ok : is_shelf h ≡ true
      ok = K.stored.shelf

      after : List ℕ
      after = unit_written h image s j x

      away : (t i : ℕ) → t < stripes (layout_in h) → i < h.k → present h (unit_in h t i) ≡ true → eqb t s ≡ false → cell h after t i ≡ asked h memory' t i
      away t i ht hi p e =
          let ne : t ≢ s = eqb-false t s e in
          away_kept h ok image K.stored.size s j x hs hj hx t i ht hi ne
          ∙ K.same t i ht hi p
          ∙ sym (asked_same h memory memory' t (data_away t ne) i hi)

      -- a unit of the stripe: the data written, the parity, another
      here : (i : ℕ) → i < h.k → present h (unit_in h s i) ≡ true → cell h after s i ≡ asked h memory' s i
      here i hi p = cases (eqb i j) written (λ d. cases (eqb i (h.k - 1)) parity (other d))
        where
          written : eqb i j ≡ true → cell h after s i ≡ asked h memory' s i
          written d =
              let q : i ≡ j = eqb-true i j d in
              let ne : j ≢ h.k - 1 = omega arith in
              rw q
              (data_written h ok image K.stored.size s j x hs hj hx (rw q at p)
              ∙ sym (asked_data h memory' s j ne ∙ data_own j hj ∙ put_same (data_of h memory s) j x))

          parity : eqb i (h.k - 1) ≡ true → cell h after s i ≡ asked h memory' s i
          parity e =
              let q : i ≡ h.k - 1 = eqb-true i (h.k - 1) e in
              let here : present h (unit_in h s (h.k - 1)) ≡ true = rw q at p in
              rw q (parity-written h ok image K.stored.size s j x hs hj hx here ∙ parity-asked here)

          other : eqb i j ≡ false → eqb i (h.k - 1) ≡ false → cell h after s i ≡ asked h memory' s i
          other d e =
              let nd : i ≢ j = eqb-false i j d in
              let np : i ≢ h.k - 1 = eqb-false i (h.k - 1) e in
              beside_kept h ok image K.stored.size s j x hs hj hx s i hs hi nd np
              ∙ own_data i (omega arith) p
              ∙ sym (asked_data h memory' s i np ∙ data_own i (omega arith) ∙ put_other (data_of h memory s) j x i nd)

      own : (t i : ℕ) → i < h.k → present h (unit_in h t i) ≡ true → eqb t s ≡ true → cell h after t i ≡ asked h memory' t i
      own t i hi p e = let q : t ≡ s = eqb-true t s e in rw q (here i hi (rw q at p))

-- ---- stripe write

-- the memory with the units of the buffer at the addresses of stripe s
abbrev pub with_stripe : Shelf → (ℕ → List ℕ) → ℕ → List ℕ → ℕ → List ℕ
with_stripe h memory s buffer a = cond (eqb (stripe_of (layout_in h) a) s) (unit_at (unit_size h) buffer (j_of (layout_in h) a)) (memory a)

module _ (h : Shelf) (image : List ℕ) (memory : ℕ → List ℕ) (K : Keeps h image memory)
    (s : ℕ) (buffer : List ℕ) (hb : length buffer ≡ (h.k - 1) * unit_size h) where
  stripe_data_own : (i : ℕ) → i < h.k - 1 → data_of h (with_stripe h memory s buffer) s i ≡ unit_at (unit_size h) buffer i
  unfolding data_of
  stripe_data_own i hi = rw (digits_div s hi, digits_mod s hi, eq-eqb s s refl)

  stripe_data_away : (t : ℕ) → t ≢ s → (i : ℕ) → i < h.k - 1 → data_of h (with_stripe h memory s buffer) t i ≡ data_of h memory t i
  unfolding data_of
  stripe_data_away t ne i hi = rw (digits_div t hi, ne_eqb t s ne)

  stripe-asked : (i : ℕ) → i < h.k → with_parity h buffer i ≡ asked h (with_stripe h memory s buffer) s i
  unfolding with_parity asked
  stripe-asked i hi = cases (eqb i (h.k - 1))
      (λ e. rw e (xor_sum_ext (unit_size h) _ _ (h.k - 1) (λ j hj. sym (stripe_data_own j hj))))
      (λ e. let ne : i ≢ h.k - 1 = eqb-false i (h.k - 1) e in rw e (sym (stripe_data_own i (omega arith))))

  pub stripe_write_remembered : Keeps h (stripe_written h image s buffer) (with_stripe h memory s buffer)
  stripe_write_remembered = record {
    stored = record { shelf = K.stored.shelf; size = stripe-written-length h K.stored.shelf image K.stored.size s buffer hb };
    sized = λ a. cases (eqb (stripe_of (layout_in h) a) s)
        (λ e. rw e (unit-length (unit_size h) (h.k - 1) buffer hb (j_of (layout_in h) a) (j-lt (layout_in h) (even_shelf h K.stored.shelf) a)))
        (λ e. rw e (K.sized a));
    same = λ t i ht hi p. stripe-written h K.stored.shelf image K.stored.size s buffer hb t i ht hi ∙ cases (eqb t s) (own t i hi p) (away t i ht hi p);
  }
    where
      own : (t i : ℕ) → i < h.k → present h (unit_in h t i) ≡ true → eqb t s ≡ true
          → cond (eqb t s && present h (unit_in h t i)) (with_parity h buffer i) (cell h image t i) ≡ asked h (with_stripe h memory s buffer) t i
      own t i hi p e = rw (e, p) (stripe-asked i hi ∙ ap (λ (t : ℕ). asked h (with_stripe h memory s buffer) t i) (sym (eqb-true t s e)))

      away : (t i : ℕ) → t < stripes (layout_in h) → i < h.k → present h (unit_in h t i) ≡ true → eqb t s ≡ false
          → cond (eqb t s && present h (unit_in h t i)) (with_parity h buffer i) (cell h image t i) ≡ asked h (with_stripe h memory s buffer) t i
      away t i ht hi p e =
          rw e (K.same t i ht hi p ∙ sym (asked_same h memory (with_stripe h memory s buffer) t (stripe_data_away t (eqb-false t s e)) i hi))
