-- The units of a stripe stand on different disks, the copies of a tuple have their parity once on each of its disks, and every
-- disk has as many parity units. Assumes nothing.
use mathlib.Core.Path.{◌≡◌, refl, sym, ap, ap₂, ◌∙◌}
use mathlib.Core.Logic.{◌≢◌}
use mathlib.Core.Bool.{Bool, true, false, cond}
use Prim.Native.Nat.{ℕ, ◌+◌, ◌-◌, ◌*◌, ◌/◌, ◌%◌, ◌<◌}
use native.Mathlib.Nat.{mod-mod, div-add-mod'}
use native.Mathlib.Omega.{arith}
use lib.Dec.{eqb}
use lib.Arith.{digits_lt, digits_div, digits_mod}
use borrow.Author.Tests.{eq-eqb, eqb-true}
use Rattle.std.specs.Prelude.{Err, Result, Ok}
use Rattle.design.specs.declared.Refusal.{Refusal}
use Rattle.design.specs.declared.Shelf.{Shelf}
use Rattle.design.specs.Count.{count, nth}
use Rattle.design.specs.Tuples.{holds}
use Rattle.design.specs.Shelf.{is_shelf}
use Rattle.design.proofs.Counting.{alike, count_ext, Nth}
use Rattle.design.proofs.Sums.{sum_ext, sum_const, count_swap, count_unique}
use Rattle.placement.specs.declared.LookUp.{LookUp}
use Rattle.placement.specs.Slots.{position_of}
use Rattle.placement.specs.Layout.{Layout, layout_in, data_count, offsets, stripe_of, j_of, copy_of, tuple_of, parity_of, disk_of, split_of, tuple_at, stripe_at, position_at}
use Rattle.placement.specs.Placed.{spot_of, stands_at, looked_up}
use Rattle.placement.proofs.Held.{held_at}
use Rattle.placement.proofs.Stepping.{position_not_parity}
use Rattle.placement.proofs.Even.{Even, even_shelf}
use Rattle.placement.proofs.Position.{parity-lt, position-lt, position_inj}
use Rattle.placement.proofs.Row.{tuple-lt, parity_copy, parity_row}
use Rattle.placement.proofs.Undo.{row_there, position_there}
use Rattle.placement.proofs.Stands.{j-lt}
use Rattle.placement.proofs.Accepted.{looked_up_lem}
use Rattle.placement.proofs.Rows.{count_rows, count-digit}

-- ---- different disks

module _ (L : Layout) (E : Even L) where
  pub positions_apart : (s x y : ℕ) → x < L.design.k → y < L.design.k → disk_of L s x ≡ disk_of L s y → x ≡ y
  positions_apart s x y hx hy e = E.different (tuple_of L s) (tuple-lt L E s) x y hx hy e

  -- the addresses of a stripe
  pub addresses_apart : (a a' : ℕ) → stripe_of L a ≡ stripe_of L a' → (spot_of L a).disk ≡ (spot_of L a').disk → a ≡ a'
  unfolding spot_of
  addresses_apart a a' es ed =
      let s : ℕ = stripe_of L a in
      let x : ℕ = position_of (parity_of L s) (j_of L a) in
      let y : ℕ = position_of (parity_of L s) (j_of L a') in
      let hx : x < L.design.k = position-lt L E s (j_of L a) (j-lt L E a) in
      let hy : y < L.design.k = position-lt L E s (j_of L a') (j-lt L E a') in
      let ed' : disk_of L s x ≡ disk_of L s y = ed ∙ ap (λ (n : ℕ). disk_of L n (position_of (parity_of L n) (j_of L a'))) (sym es) in
      let ej : j_of L a ≡ j_of L a' = position_inj L E s (j_of L a) (j_of L a') (positions_apart s x y hx hy ed') in
      sym (div-add-mod' a (data_count L)) ∙ ap₂ (λ (m n : ℕ). m * data_count L + n) es ej ∙ div-add-mod' a' (data_count L)

  -- an address and its stripe's parity
  pub parity_apart : (a : ℕ) → (spot_of L a).disk ≢ (spot_of L a).parity_disk
  unfolding spot_of
  parity_apart a e =
      let s : ℕ = stripe_of L a in
      position_not_parity (parity_of L s) (j_of L a)
      (positions_apart s (position_of (parity_of L s) (j_of L a)) (parity_of L s) (position-lt L E s (j_of L a) (j-lt L E a)) (parity-lt L E s) e)

-- ---- the parity of the copies of a tuple

-- the stripe of full table t, copy c and tuple q
abbrev pub stripe_in : Layout → ℕ → ℕ → ℕ → ℕ
stripe_in L t c q = t * (L.design.b * L.design.k) + (c * L.design.b + q)

module _ (L : Layout) (E : Even L) where
  w_in : (t c q : ℕ) → c < L.design.k → q < L.design.b → stripe_in L t c q % (L.design.b * L.design.k) ≡ c * L.design.b + q
  w_in t c q hc hq = let l : c * L.design.b + q < L.design.b * L.design.k = omega (arith, digits_lt hc hq) in digits_mod t l

  copy_in : (t c q : ℕ) → c < L.design.k → q < L.design.b → copy_of L (stripe_in L t c q) ≡ c
  unfolding split_of
  copy_in t c q hc hq = rw (w_in t c q hc hq) (digits_div c hq)

  tuple_in : (t c q : ℕ) → c < L.design.k → q < L.design.b → tuple_of L (stripe_in L t c q) ≡ q
  unfolding split_of
  tuple_in t c q hc hq = rw (w_in t c q hc hq) (digits_mod c hq)

  -- each position is the parity's in one copy
  turn_once : (p : ℕ) → p < L.design.k → count (λ c. eqb p (L.design.k - 1 - c)) L.design.k ≡ 1
  turn_once p h =
      count_unique (λ c. eqb p (L.design.k - 1 - c)) L.design.k (L.design.k - 1 - p) (omega arith)
      (eq-eqb p (L.design.k - 1 - (L.design.k - 1 - p)) (omega arith))
      (λ c l e. omega (arith, eqb-true p (L.design.k - 1 - c) e))

  -- a disk of a tuple stands at one position
  stands_once : (q d p x : ℕ) → q < L.design.b → Nth (λ y. eqb (L.design.disk q y) d) L.design.k 0 p → x < L.design.k → eqb (L.design.disk q x) d ≡ eqb p x
  stands_once q d p x hq at hx =
      let ep : L.design.disk q p ≡ d = eqb-true (L.design.disk q p) d at.passes in
      alike (eqb (L.design.disk q x) d) (eqb p x)
      (λ e. eq-eqb p x (E.different q hq p x at.below hx (ep ∙ sym (eqb-true (L.design.disk q x) d e))))
      (λ e. eq-eqb (L.design.disk q x) d (ap (L.design.disk q) (sym (eqb-true p x e)) ∙ ep))

  -- in one copy of a tuple its parity is on disk d
  pub parity-once : (t q d : ℕ) → q < L.design.b → holds L.design q d ≡ true
      → count (λ c. eqb (disk_of L (stripe_in L t c q) (parity_of L (stripe_in L t c q))) d) L.design.k ≡ 1
  parity-once t q d hq e = count_ext _ _ L.design.k each ∙ turn_once p at.below
    where
      p : ℕ
      p = nth (λ x. eqb (L.design.disk q x) d) L.design.k 0

      at : Nth (λ x. eqb (L.design.disk q x) d) L.design.k 0 p
      at = held_at L.design q d e

      each : (c : ℕ) → c < L.design.k → eqb (disk_of L (stripe_in L t c q) (parity_of L (stripe_in L t c q))) d ≡ eqb p (L.design.k - 1 - c)
      each c l =
          ap₂ (λ (x y : ℕ). eqb (L.design.disk y x) d) (parity_copy L E (stripe_in L t c q) ∙ ap (λ (x : ℕ). L.design.k - 1 - x) (copy_in t c q l hq)) (tuple_in t c q l hq)
          ∙ stands_once q d p (L.design.k - 1 - c) hq at (omega arith)

-- ---- the parity units of a disk

unfoldable pub is_parity : LookUp → Bool
is_parity (LookUp.Data stripe address) = false
is_parity (LookUp.Parity stripe) = true

-- and with what looking up answers
unfoldable pub finds_parity : Result LookUp Refusal → Bool
finds_parity (Ok x) = is_parity x
finds_parity (Err r) = false

parity_test : (b : Bool) (s a : ℕ) → is_parity (cond b (LookUp.Parity s) (LookUp.Data s a)) ≡ b
unfolding is_parity
parity_test true s a = refl
parity_test false s a = refl

module _ (L : Layout) (E : Even L) (d : ℕ) (hd : d < L.design.v) where
  -- what stands at offset o is the tuple of o mod r, in copy o div r
  position-digit : (o : ℕ) → position_at L d o ≡ position_at L d (o % L.r)
  unfolding position_at tuple_at
  position-digit o = rw (mod-mod o L.r)

  parity_digits : (o : ℕ) → is_parity (stands_at L d o) ≡ eqb (position_at L d (o % L.r)) (L.design.k - 1 - o / L.r % L.design.k)
  unfolding stands_at
  parity_digits o =
      parity_test (eqb (position_at L d o) (parity_of L (stripe_at L d o))) (stripe_at L d o) _
      ∙ ap₂ eqb (position-digit o) (parity_row L E (stripe_at L d o) ∙ ap (λ (n : ℕ). L.design.k - 1 - n % L.design.k) (row_there L E d o hd))

  pub parity-units : count (λ o. is_parity (stands_at L d o)) (offsets L) ≡ L.T * L.r
  parity-units =
      ap (count (λ o. is_parity (stands_at L d o))) (omega arith)
      ∙ count_rows (λ o. is_parity (stands_at L d o)) L.r (L.T * L.design.k)
      ∙ sum_ext _ _ (L.T * L.design.k) (λ i l. count_ext _ (λ m. eqb (position_at L d m) (L.design.k - 1 - i % L.design.k)) L.r (each i))
      ∙ count_swap (λ i m. eqb (position_at L d m) (L.design.k - 1 - i % L.design.k)) (L.T * L.design.k) L.r
      ∙ sum_ext _ (λ m. L.T) L.r column
      ∙ sum_const L.T L.r
      ∙ omega arith
    where
      each : (i m : ℕ) → m < L.r → is_parity (stands_at L d (i * L.r + m)) ≡ eqb (position_at L d m) (L.design.k - 1 - i % L.design.k)
      each i m h = parity_digits (i * L.r + m) ∙ rw (digits_mod i h, digits_div i h)

      column : (m : ℕ) → m < L.r → count (λ i. eqb (position_at L d m) (L.design.k - 1 - i % L.design.k)) (L.T * L.design.k) ≡ L.T
      column m h =
          count-digit (λ c. eqb (position_at L d m) (L.design.k - 1 - c)) L.design.k L.T
          ∙ ap (λ (n : ℕ). L.T * n) (turn_once L E (position_at L d m) (position_there L E d m hd))
          ∙ omega arith

-- the same, over looking up
pub parity_looked_up : (h : Shelf) (d : ℕ) → is_shelf h ≡ true → d < h.v → count (λ o. finds_parity (looked_up h d o)) (offsets (layout_in h)) ≡ h.T * h.r
unfolding finds_parity
parity_looked_up h d e hd =
    count_ext _ _ (offsets (layout_in h)) (λ o l. ap finds_parity (looked_up_lem h d o (record { shelf = e; disk = hd; offset = l })))
    ∙ parity-units (layout_in h) (even_shelf h e) d hd
