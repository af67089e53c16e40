-- What a call gives or writes is defined from the units that it takes: two images that agree there give the same bytes.
-- Assumes nothing.
use mathlib.Core.Path.{◌≡◌, refl, sym, ap, ap₂, ◌∙◌}
use mathlib.Core.Logic.{◌≢◌}
use mathlib.Core.Bool.{Bool, true, false, not, cond, ◌&&◌}
use mathlib.Core.List.{List}
use Prim.Native.Nat.{ℕ, ◌-◌, ◌*◌, ◌<◌}
use native.Mathlib.Omega.{arith}
use lib.Dec.{eqb}
use lib.ListN.{length}
use borrow.Author.Tests.{eq-eqb, ne_eqb, not-true}
use Rattle.design.specs.declared.Shelf.{Shelf}
use Rattle.design.specs.Loss.{is_lost}
use Rattle.design.specs.Shelf.{is_shelf}
use Rattle.design.proofs.Counting.{both, both_of}
use Rattle.placement.specs.Layout.{layout_in, stripes}
use Rattle.parity.specs.Units.{unit_at, xor_u}
use Rattle.parity.specs.Stripe.{unit_size, units, image_size, unit_in, disk_at, stripe_here, index_here, present, cell}
use Rattle.parity.specs.Calls.{on_disk, fetched, new_parity, unit_written, stripe_written, restored, rebuilt_image}
use Rattle.parity.proofs.Cases.{cases, put_ext}
use Rattle.parity.proofs.Xor.{xor_sum_ext}
use Rattle.parity.proofs.Patch.{patch_on}
use Rattle.parity.proofs.Home.{unit-lt, stripe_home, index_home, stripe_here-lt, index_here-lt, unit_home, beside_absent}
use Rattle.parity.proofs.Present.{present_is}
use Rattle.parity.proofs.Meets.{unit_on_disk, lost_exactly}
use Rattle.parity.proofs.Cells.{others_ext}
use Rattle.parity.proofs.Rebuilt.{restores-all, restored-sized}
use Rattle.parity.proofs.Written.{unit-written-sized, stripe-written-sized}
use Rattle.parity.proofs.Stores.{unit_is}
use Rattle.parity.proofs.Sets.{read_set, data_or_parity, write_read_set, write_set, stripe_set, rebuild_set}

-- two images have the same bytes in each unit that passes `on`
abbrev pub Agree : Shelf → (ℕ → Bool) → List ℕ → List ℕ → Type 0
Agree h on a b = (n : ℕ) → n < units h → on n ≡ true → unit_at (unit_size h) a n ≡ unit_at (unit_size h) b n

module _ (h : Shelf) (ok : is_shelf h ≡ true) (a b : List ℕ) where
  cell_same : (on : ℕ → Bool) → Agree h on a b → (s i : ℕ) → s < stripes (layout_in h) → i < h.k → on (unit_in h s i) ≡ true → cell h a s i ≡ cell h b s i
  unfolding cell
  cell_same on same s i hs hi e = same (unit_in h s i) (unit-lt h ok s i hs hi) e

  -- ---- read

  pub read_defined : (s i : ℕ) → s < stripes (layout_in h) → i < h.k → Agree h (read_set h s i) a b → fetched h a s i ≡ fetched h b s i
  unfolding fetched read_set
  read_defined s i hs hi same = cases (present h (unit_in h s i)) here lost
    where
      at : (j : ℕ) → j < h.k → cond (present h (unit_in h s i)) (eqb j i) (not (eqb j i)) ≡ true → cell h a s j ≡ cell h b s j
      at j hj e = cell_same (read_set h s i) same s j hs hj (rw (stripe_home h ok s j hs hj, index_home h ok s j hs hj, eq-eqb s s refl) e)

      here : present h (unit_in h s i) ≡ true → fetched h a s i ≡ fetched h b s i
      here p = rw p (at i hi (rw (p, eq-eqb i i refl)))

      lost : present h (unit_in h s i) ≡ false → fetched h a s i ≡ fetched h b s i
      lost p = rw p (others_ext h a b s i (λ j hj ne. at j hj (rw (p, ne_eqb j i ne))))

  -- ---- unit write

  module _ (s j : ℕ) (x : List ℕ) (hs : s < stripes (layout_in h)) (hj : j < h.k - 1) (same : Agree h (write_read_set h s j) a b) where
    parity_defined : present h (unit_in h s (h.k - 1)) ≡ true → new_parity h a s j x ≡ new_parity h b s j x
    unfolding new_parity write_read_set
    parity_defined q = cases (present h (unit_in h s j)) here lost
      where
        at : (i : ℕ) → i < h.k → cond (present h (unit_in h s j)) (present h (unit_in h s (h.k - 1)) && data_or_parity h j i) (not (data_or_parity h j i)) ≡ true
            → cell h a s i ≡ cell h b s i
        at i hi e = cell_same (write_read_set h s j) same s i hs hi (rw (stripe_home h ok s i hs hi, index_home h ok s i hs hi, eq-eqb s s refl) e)

        here : present h (unit_in h s j) ≡ true → new_parity h a s j x ≡ new_parity h b s j x
        here p =
            let ne : h.k - 1 ≢ j = omega arith in
            rw p
            (ap₂ (λ (y z : List ℕ). xor_u y (xor_u z x))
            (at (h.k - 1) (omega arith) (rw (p, q, ne_eqb (h.k - 1) j ne, eq-eqb (h.k - 1) (h.k - 1) refl)))
            (at j (omega arith) (rw (p, q, eq-eqb j j refl))))

        lost : present h (unit_in h s j) ≡ false → new_parity h a s j x ≡ new_parity h b s j x
        lost p =
            rw p
            (xor_sum_ext (unit_size h) _ _ (h.k - 1)
            (λ i hi. put_ext (cell h a s) (cell h b s) _ x i
            (λ nd. let np : i ≢ h.k - 1 = omega arith in at i (omega arith) (rw (p, ne_eqb i j nd, ne_eqb i (h.k - 1) np)))))

    module _ (la : length a ≡ image_size h) (lb : length b ≡ image_size h) (hx : length x ≡ unit_size h) where
      pub unit_write_defined : Agree h (write_set h s j) (unit_written h a s j x) (unit_written h b s j x)
      unfolding unit_written write_set
      unit_write_defined n hn e =
          patch_on h a la _ _ (unit-written-sized h ok a la s j x hs hj hx _) n hn e
          ∙ cases (eqb (index_here h n) j) (λ p. rw p) (λ p. rw p (parity_defined (parity_here p)))
          ∙ sym (patch_on h b lb _ _ (unit-written-sized h ok b lb s j x hs hj hx _) n hn e)
        where
          parity_here : eqb (index_here h n) j ≡ false → present h (unit_in h s (h.k - 1)) ≡ true
          parity_here p =
              let q = both (eqb (stripe_here h n) s && data_or_parity h j (index_here h n)) (present h n) e in
              let r = both (eqb (stripe_here h n) s) (data_or_parity h j (index_here h n)) q.0 in
              ap (present h) (unit_is h ok s (h.k - 1) n hn (both_of r.0 (rw p at r.1))) ∙ q.1

  -- ---- stripe write: from no unit of the image

  pub stripe_write_defined : (s : ℕ) (buffer : List ℕ) → length buffer ≡ (h.k - 1) * unit_size h → length a ≡ image_size h → length b ≡ image_size h
      → Agree h (stripe_set h s) (stripe_written h a s buffer) (stripe_written h b s buffer)
  unfolding stripe_written stripe_set
  stripe_write_defined s buffer hb la lb n hn e =
      patch_on h a la _ _ (stripe-written-sized h ok a la s buffer hb _) n hn e
      ∙ sym (patch_on h b lb _ _ (stripe-written-sized h ok b lb s buffer hb _) n hn e)

  -- ---- rebuild

  pub rebuild_defined : (d : ℕ) → is_lost h d ≡ true → length a ≡ image_size h → length b ≡ image_size h → ((e : ℕ) → Agree h (rebuild_set h d e) a b)
      → Agree h (λ n. not (present h n)) (rebuilt_image h a) (rebuilt_image h b)
  unfolding restored rebuild_set
  rebuild_defined d lost la lb same n hn t =
      patch_on h a la _ _ (restored-sized h ok a la _) n hn (restores-all h ok n ∙ t)
      ∙ others_ext h a b (stripe_here h n) (index_here h n) other
      ∙ sym (patch_on h b lb _ _ (restored-sized h ok b lb _) n hn (restores-all h ok n ∙ t))
    where
      s : ℕ
      s = stripe_here h n

      hs : s < stripes (layout_in h)
      hs = stripe_here-lt h ok n hn

      hi : index_here h n < h.k
      hi = index_here-lt h ok n hn

      gone : present h (unit_in h s (index_here h n)) ≡ false
      gone = ap (present h) (unit_home h ok n hn) ∙ not-true (present h n) t

      meets : on_disk h s d ≡ true
      meets = ap (on_disk h s) (sym ((lost_exactly h ok s hs d (index_here h n) lost).0 gone)) ∙ unit_on_disk h ok s hs (index_here h n) hi

      other : (j : ℕ) → j < h.k → j ≢ index_here h n → cell h a s j ≡ cell h b s j
      other j hj ne =
          let m : ℕ = unit_in h s j in
          let e : ℕ = disk_at h m in
          let apart : not (eqb e d) ≡ true = sym (present_is h d lost m) ∙ beside_absent h ok s (index_here h n) j hs hi hj gone ne in
          cell_same (rebuild_set h d e) (same e) s j hs hj (rw (eq-eqb e e refl, apart, stripe_home h ok s j hs hj) meets)
