-- The units of the image that each call takes and writes, and that they are as many as it answers. Assumes nothing.
use mathlib.Core.Path.{◌≡◌, refl, sym, ap, ap₂, ◌∙◌}
use mathlib.Core.Logic.{◌≢◌}
use mathlib.Core.Bool.{Bool, true, false, not, cond, ◌&&◌, ◌||◌, and-true, and-false, and_assoc, and_comm}
use Prim.Native.Nat.{ℕ, ◌+◌, ◌-◌, ◌%◌, ◌≤◌, ◌<◌}
use native.Mathlib.Omega.{arith}
use lib.Dec.{ltb, eqb}
use borrow.Author.Tests.{ltb-true, ltb-false, eq-eqb, ne_eqb, eqb-true, eqb-false}
use Rattle.design.specs.declared.Shelf.{Shelf}
use Rattle.design.specs.Count.{count}
use Rattle.design.specs.Loss.{is_lost}
use Rattle.design.specs.Shelf.{is_shelf}
use Rattle.design.proofs.Counting.{count_ext, count_none}
use Rattle.placement.specs.Layout.{layout_in, stripes, stripe_at}
use Rattle.placement.proofs.Even.{even_shelf}
use Rattle.placement.proofs.Shares.{reads_shared}
use Rattle.parity.specs.Stripe.{depth, units, unit_in, disk_at, stripe_here, index_here, present}
use Rattle.parity.specs.Calls.{read_cost, write_reads, write_writes, stripe_writes, on_disk, read_from}
use Rattle.parity.proofs.Cases.{cases}
use Rattle.parity.proofs.Counting.{count-one, count_pair, count-rest}
use Rattle.parity.proofs.Home.{index_home, disk_below, one_absent}
use Rattle.parity.proofs.UnitCounts.{stripe-count, index_count, disk-count}
use Rattle.parity.proofs.Counts.{shared-stripes, read_from_lost, read_from_outside}

-- ---- the units

-- a read of unit i of stripe s takes this unit, or the others
unfoldable pub read_set : Shelf → ℕ → ℕ → ℕ → Bool
read_set h s i n = eqb (stripe_here h n) s && cond (present h (unit_in h s i)) (eqb (index_here h n) i) (not (eqb (index_here h n) i))

-- i is data j or the parity
abbrev pub data_or_parity : Shelf → ℕ → ℕ → Bool
data_or_parity h j i = eqb i j || eqb i (h.k - 1)

-- a unit write to data j of stripe s takes data and parity; the other data, where the data disk is lost; none, where the
-- parity disk is lost
unfoldable pub write_read_set : Shelf → ℕ → ℕ → ℕ → Bool
write_read_set h s j n =
    eqb (stripe_here h n) s
    && cond (present h (unit_in h s j)) (present h (unit_in h s (h.k - 1)) && data_or_parity h j (index_here h n)) (not (data_or_parity h j (index_here h n)))

-- it writes those of data and parity that are present
unfoldable pub write_set : Shelf → ℕ → ℕ → ℕ → Bool
write_set h s j n = eqb (stripe_here h n) s && data_or_parity h j (index_here h n) && present h n

-- a stripe write to stripe s writes its units that are present
unfoldable pub stripe_set : Shelf → ℕ → ℕ → Bool
stripe_set h s n = eqb (stripe_here h n) s && present h n

-- a rebuild of disk d takes from disk e the units of the stripes that both have
unfoldable pub rebuild_set : Shelf → ℕ → ℕ → ℕ → Bool
rebuild_set h d e n = eqb (disk_at h n) e && not (eqb e d) && on_disk h (stripe_here h n) d

-- ---- how many they are

module _ (h : Shelf) (ok : is_shelf h ≡ true) where
  k_is : h.k ≡ h.k - 1 + 1
  k_is = omega (arith, (even_shelf h ok).k_least)

  module _ (s : ℕ) (hs : s < stripes (layout_in h)) where
    pub read_size : (i : ℕ) → i < h.k → count (read_set h s i) (units h) ≡ read_cost h s i
    unfolding read_set read_cost
    read_size i hi = index_count h ok _ s hs ∙ go (present h (unit_in h s i))
      where
        go : (here : Bool) → count (λ j. cond here (eqb j i) (not (eqb j i))) h.k ≡ cond here 1 (h.k - 1)
        go true = count-one h.k i hi
        go false = omega (arith, count-rest (λ j. eqb j i) h.k, count-one h.k i hi)

    module _ (j : ℕ) (hj : j < h.k - 1) where
      -- of the data j and the parity, those that pass f
      two-count : (f : ℕ → Bool) → count (λ i. data_or_parity h j i && f i) h.k ≡ cond (f j) 1 0 + cond (f (h.k - 1)) 1 0
      two-count f =
          let g : ℕ → Bool = λ i. data_or_parity h j i && f i in
          let ne : h.k - 1 ≢ j = omega arith in
          let at-data : g j ≡ f j = rw (eq-eqb j j refl) in
          let at-parity : g (h.k - 1) ≡ f (h.k - 1) = rw (ne_eqb (h.k - 1) j ne, eq-eqb (h.k - 1) (h.k - 1) refl) in
          ap (count g) k_is
          ∙ count_pair g (h.k - 1) j hj (λ i l nd. let np : i ≢ h.k - 1 = omega arith in rw (ne_eqb i j nd, ne_eqb i (h.k - 1) np))
          ∙ ap₂ (λ (x y : Bool). cond x 1 0 + cond y 1 0) at-data at-parity

      pair_count : count (data_or_parity h j) h.k ≡ 2
      pair_count = count_ext _ _ h.k (λ i l. sym (and-true (data_or_parity h j i))) ∙ two-count (λ i. true)

      pub write_read_size : count (write_read_set h s j) (units h) ≡ write_reads h s j
      unfolding write_read_set write_reads
      write_read_size = index_count h ok _ s hs ∙ go (present h (unit_in h s j)) (present h (unit_in h s (h.k - 1)))
        where
          go : (data-here parity_here : Bool)
              → count (λ i. cond data-here (parity_here && data_or_parity h j i) (not (data_or_parity h j i))) h.k ≡ cond data-here (cond parity_here 2 0) (h.k - 2)
          go true true = pair_count
          go true false = count_none (λ i. false) h.k (λ i hi. refl)
          go false parity_here = omega (arith, count-rest (data_or_parity h j) h.k, pair_count)

      pub write_size : count (write_set h s j) (units h) ≡ write_writes h s j
      unfolding write_set write_writes
      write_size =
          count_ext _ _ (units h) (λ n l. and_assoc (eqb (stripe_here h n) s) (data_or_parity h j (index_here h n)) (present h n))
          ∙ stripe-count h ok (λ n. data_or_parity h j (index_here h n) && present h n) s hs
          ∙ count_ext _ _ h.k (λ i hi. ap (λ (x : ℕ). data_or_parity h j x && present h (unit_in h s i)) (index_home h ok s i hs hi))
          ∙ two-count (λ i. present h (unit_in h s i))
          ∙ go (present h (unit_in h s j)) (present h (unit_in h s (h.k - 1)))
          (λ x y. let e : j ≡ h.k - 1 = one_absent h ok s j (h.k - 1) hs (omega arith) (omega arith) x y in omega arith)
        where
          go : (x y : Bool) → (x ≡ false → y ≡ false → ⊥) → cond x 1 0 + cond y 1 0 ≡ cond (x && y) 2 1
          go true true some = refl
          go true false some = refl
          go false true some = refl
          go false false some = absurd (some refl refl)

    pub stripe_size : count (stripe_set h s) (units h) ≡ stripe_writes h s
    unfolding stripe_set stripe_writes
    stripe_size = stripe-count h ok (present h) s hs

  -- what a rebuild of disk d takes from disk e
  module _ (d e : ℕ) (lost : is_lost h d ≡ true) where
    -- the stripe of offset o of disk e has disk d
    abbrev shares : ℕ → Bool
    shares o = on_disk h (stripe_at (layout_in h) e o) d

    by_offset : eqb e d ≡ false → (n : ℕ) → rebuild_set h d e n ≡ (eqb (disk_at h n) e && shares (n % depth h))
    unfolding rebuild_set stripe_here
    by_offset t n = rw t (cases (eqb (disk_at h n) e) (λ p. rw (p, eqb-true (disk_at h n) e p)) (λ p. rw p))

    none_there : h.v ≤ e → (n : ℕ) → n < units h → rebuild_set h d e n ≡ false
    unfolding rebuild_set
    none_there l n hn = let ne : disk_at h n ≢ e = omega (arith, disk_below h ok n hn) in rw (ne_eqb (disk_at h n) e ne)

    inside : e < h.v → eqb e d ≡ false → count (rebuild_set h d e) (units h) ≡ read_from h 0 (depth h) e
    inside he t =
        count_ext _ _ (units h) (λ n l. by_offset t n)
        ∙ disk-count h ok shares e he
        ∙ reads_shared (layout_in h) (even_shelf h ok) e d he
        ∙ count_ext _ _ (stripes (layout_in h)) (λ s l. and_comm (on_disk h s e) (on_disk h s d))
        ∙ sym (shared-stripes h ok d lost e (eqb-false e d t))

    own : eqb e d ≡ true → count (rebuild_set h d e) (units h) ≡ read_from h 0 (depth h) e
    unfolding rebuild_set
    own t =
        count_none _ (units h) (λ n l. rw (t, and-false (eqb (disk_at h n) e)))
        ∙ sym (ap (read_from h 0 (depth h)) (eqb-true e d t) ∙ read_from_lost h ok d lost)

    pub rebuild_size : count (rebuild_set h d e) (units h) ≡ read_from h 0 (depth h) e
    rebuild_size =
        cases (eqb e d) own (λ t. cases (ltb e h.v)
        (λ l. inside (ltb-true e h.v l) t)
        (λ l. let out : h.v ≤ e = ltb-false e h.v l in count_none _ (units h) (none_there out) ∙ sym (read_from_outside h ok d lost e out)))
