-- A read or a write of an address that has passed its rules: from where the address stands, the steps of the code come to what is
-- promised. Assumes nothing.
use mathlib.Core.Path.{◌≡◌, sym, ap, ◌∙◌}
use mathlib.Core.Logic.{◌≢◌}
use mathlib.Core.Bool.{true, false}
use mathlib.Core.List.{List}
use Prim.Native.Nat.{ℕ, ◌+◌, ◌-◌, ◌*◌, ◌≤◌, ◌<◌}
use native.Mathlib.Omega.{arith}
use lib.ListN.{length}
use Rattle.design.specs.declared.Shelf.{Shelf}
use Rattle.placement.specs.Layout.{layout_in, stripe_of, j_of}
use Rattle.parity.specs.declared.Cost.{Cost}
use Rattle.parity.specs.declared.storing.Standing.{Standing}
use Rattle.parity.specs.Units.{unit_at, xor_u, xor_sum, put}
use Rattle.parity.specs.Stripe.{unit_size, unit_in, units, present, cell, others}
use Rattle.parity.specs.Calls.{by, cost, fetched, read_cost, new_parity, unit_written, write_reads, write_writes}
use Rattle.parity.specs.inner.Stores.{put_unit}
use Rattle.parity.specs.inner.Shapes.{standing_in, DataCall, UnitCall, resealed}
use Rattle.parity.proofs.Image.{unit_fits}
use Rattle.parity.proofs.Home.{unit-lt, beside_absent}
use Rattle.parity.proofs.Accepted.{call_stripe-lt, call_data_lt}
use Rattle.parity.proofs.UnitStores.{write_both, write_data, write_parity}

module _ {h : Shelf} {image : List ℕ} {a : ℕ} {unit : List ℕ} (w : UnitCall h image a unit) {at : Standing} (stands : at ≡ standing_in h a) where
  abbrev s : ℕ
  s = stripe_of (layout_in h) a

  abbrev j : ℕ
  j = j_of (layout_in h) a

  abbrev parity : ℕ
  parity = unit_in h s (h.k - 1)

  data_lt : j < h.k
  data_lt = omega (arith, call_data_lt w)

  parity-lt : h.k - 1 < h.k
  parity-lt = omega (arith, call_data_lt w)

  -- ---- what stands there

  unit_is : at.unit ≡ unit_in h s j
  unfolding standing_in
  unit_is = ap (λ (x : Standing). x.unit) stands

  parity_is : at.parity ≡ parity
  unfolding standing_in
  parity_is = ap (λ (x : Standing). x.parity) stands

  unit_told : present h at.unit ≡ present h (unit_in h s j)
  unit_told = ap (present h) unit_is

  parity_told : present h at.parity ≡ present h parity
  parity_told = ap (present h) parity_is

  -- its units lie within the image
  within : (i : ℕ) → i < h.k → {n : ℕ} → n ≡ unit_in h s i → n * length unit + length unit ≤ length image
  within i hi e =
      rw (e, w.exact)
      (unit_fits (unit_size h) (units h) image w.stored.size (unit_in h s i) (unit-lt h w.stored.shelf s i (call_stripe-lt w) hi))

  pub unit_within : at.unit * length unit + length unit ≤ length image
  unit_within = within j data_lt unit_is

  pub parity_within : at.parity * length unit + length unit ≤ length image
  parity_within = within (h.k - 1) parity-lt parity_is

  pub data_call : DataCall h image at.stripe at.index unit
  unfolding standing_in
  data_call = rw stands (record { size = w.stored.size; stripe = call_stripe-lt w; index = call_data_lt w; exact = w.exact })

  -- ---- a read

  pub read_here : {after : List ℕ} → present h at.unit ≡ true → after ≡ unit_at (length unit) image at.unit
      → (1 ≡ read_cost h s j) × (after ≡ fetched h image s j)
  unfolding read_cost fetched cell
  read_here p loaded = let q = sym unit_told ∙ p in (rw q, rw q (rw (unit_is, w.exact) at loaded))

  pub read-lost : {after : List ℕ} → present h at.unit ≡ false → after ≡ others h image at.stripe at.index
      → (h.k - 1 ≡ read_cost h s j) × (after ≡ fetched h image s j)
  unfolding read_cost fetched standing_in
  read-lost p summed = let q = sym unit_told ∙ p in (rw q, rw q (rw stands at summed))

  -- ---- a write

  -- data j stands beside the parity
  parity_apart : h.k - 1 ≢ j
  parity_apart = omega (arith, call_data_lt w)

  -- what the code answers and leaves is what is promised
  abbrev Stored : List ℕ → ℕ → ℕ → Type 0
  Stored after r w =
      (◌≡◌ {A = Cost} (cost r w) (cost (write_reads h s j) (write_writes h s j))) × (after ≡ unit_written h image s j unit)

  pub write_parity-lost : {after : List ℕ} → present h at.parity ≡ false → after ≡ put_unit (length unit) image at.unit unit → Stored after 0 1
  unfolding by write_reads write_writes
  write_parity-lost lost stored =
      let q = sym parity_told ∙ lost in
      let p : present h (unit_in h s j) ≡ true =
      beside_absent h w.stored.shelf s (h.k - 1) j (call_stripe-lt w) parity-lt data_lt q (λ f. parity_apart (sym f)) in
      (rw (p, q), (rw (unit_is, w.exact) at stored) ∙ write_data h w.stored.shelf image w.stored.size s j unit (call_stripe-lt w) (call_data_lt w) w.exact p q)

  pub write_data_lost : {after : List ℕ} → present h at.unit ≡ false → after ≡ resealed h image at.stripe at.index unit → Stored after (h.k - 2) 1
  unfolding by write_reads write_writes new_parity resealed standing_in
  write_data_lost lost stored =
      let ok = w.stored.shelf in
      let p = sym unit_told ∙ lost in
      let q : present h parity ≡ true = beside_absent h ok s j (h.k - 1) (call_stripe-lt w) data_lt parity-lt p parity_apart in
      let sum : new_parity h image s j unit ≡ xor_sum (unit_size h) (put (cell h image s) j unit) (h.k - 1) = rw p in (
        rw p,
        (rw stands at stored)
            ∙ ap (put_unit (unit_size h) image parity) (sym sum)
            ∙ write_parity h ok image w.stored.size s j unit (call_stripe-lt w) (call_data_lt w) w.exact p q,
      )

  pub write_here : {after : List ℕ} → present h at.unit ≡ true → present h at.parity ≡ true
      → after ≡ put_unit (length unit) (put_unit (length unit) image at.parity (xor_u (unit_at (length unit) image at.parity) (xor_u (unit_at (length unit) image at.unit) unit))) at.unit unit
      → Stored after 2 2
  unfolding by write_reads write_writes new_parity cell
  write_here unit_there parity_there stored =
      let p = sym unit_told ∙ unit_there in
      let q = sym parity_told ∙ parity_there in
      let sum : new_parity h image s j unit ≡ xor_u (unit_at (unit_size h) image parity) (xor_u (unit_at (unit_size h) image (unit_in h s j)) unit) = rw p in (
        rw (p, q),
        (rw (unit_is, parity_is, w.exact) at stored)
            ∙ ap (λ (x : List ℕ). put_unit (unit_size h) (put_unit (unit_size h) image parity x) (unit_in h s j) unit) (sym sum)
            ∙ write_both h w.stored.shelf image w.stored.size s j unit (call_stripe-lt w) (call_data_lt w) w.exact p q,
      )
