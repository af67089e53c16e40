-- The counts of a rebuild, T·k·lambda for each other disk below v, else 0, and how many units a stripe write writes.
-- Assumes nothing.
use mathlib.Core.Path.{◌≡◌, sym, ap, ◌∙◌}
use mathlib.Core.Logic.{◌≢◌}
use mathlib.Core.Bool.{true, false, not, cond, ◌&&◌, and-false, true≢false}
use Prim.Native.Nat.{ℕ, ◌+◌, ◌-◌, ◌*◌, ◌%◌, ◌≤◌, ◌<◌}
use native.Mathlib.Omega.{arith}
use lib.Dec.{ltb, eqb}
use borrow.Author.Tests.{ltb-true, ltb-false, ne_eqb, eqb-true, eqb-false, not-true}
use Rattle.design.specs.declared.Shelf.{Shelf}
use Rattle.design.specs.Count.{count, nth}
use Rattle.design.specs.Loss.{is_whole, is_lost}
use Rattle.design.specs.Shelf.{is_shelf}
use Rattle.design.proofs.Counting.{fails, count_ext, count_none}
use Rattle.design.proofs.Losses.{lost_alone}
use Rattle.design.proofs.Sums.{count_unique}
use Rattle.placement.specs.Layout.{layout_in, stripes, tuple_of, disk_of, stripe_at}
use Rattle.placement.proofs.Even.{even_shelf}
use Rattle.placement.proofs.Held.{held_at}
use Rattle.placement.proofs.Row.{disk-lt}
use Rattle.placement.proofs.Shares.{reads_shared, pair_stripes}
use Rattle.parity.specs.Stripe.{depth, units, unit_in, disk_at, stripe_here, present}
use Rattle.parity.specs.Calls.{restores, on_disk, read_from, stripe_writes}
use Rattle.parity.proofs.Cases.{cases}
use Rattle.parity.proofs.Counting.{count-rest}
use Rattle.parity.proofs.Present.{whole-present, present_is}
use Rattle.parity.proofs.Home.{one_absent}
use Rattle.parity.proofs.Rebuilt.{restores-all}
use Rattle.parity.proofs.UnitCounts.{disk-count}
use Rattle.parity.proofs.Meets.{lost_below, on_disk-unit, unit_on_disk, lost_exactly}

module _ (h : Shelf) (ok : is_shelf h ≡ true) where
  -- no stripe has a unit on a disk that the shelf does not have
  none_on : (s e : ℕ) → h.v ≤ e → on_disk h s e ≡ false
  none_on s e l = fails (on_disk h s e) (λ t.
      let at = held_at (layout_in h).design (tuple_of (layout_in h) s) e t in
      let p : ℕ = nth (λ p. eqb (disk_of (layout_in h) s p) e) h.k 0 in
      omega (arith, disk-lt (layout_in h) (even_shelf h ok) s p at.below, eqb-true (disk_of (layout_in h) s p) e at.passes))

  -- ---- rebuild

  module _ (d : ℕ) (lost : is_lost h d ≡ true) where
    hd : d < h.v
    hd = lost_below h ok d lost

    -- what is restored stands on the lost disk, and its stripe is that of its offset there
    restored_at : (e n : ℕ) → (restores h 0 (depth h) n && on_disk h (stripe_here h n) e) ≡ (eqb (disk_at h n) d && on_disk h (stripe_at (layout_in h) d (n % depth h)) e)
    unfolding stripe_here
    restored_at e n = rw (restores-all h ok n, present_is h d lost n) (cases (eqb (disk_at h n) d) (λ p. rw (p, eqb-true (disk_at h n) d p)) (λ p. rw p))

    -- "the number of stripes shared with the lost disk, counted from the placement rule"
    pub shared-stripes : (e : ℕ) → e ≢ d → read_from h 0 (depth h) e ≡ count (λ s. on_disk h s d && on_disk h s e) (stripes (layout_in h))
    unfolding read_from
    shared-stripes e ne =
        rw (lost_alone h.loss d lost e, ne_eqb e d ne)
        (count_ext _ _ (units h) (λ n l. restored_at e n)
        ∙ disk-count h ok (λ o. on_disk h (stripe_at (layout_in h) d o) e) d hd
        ∙ reads_shared (layout_in h) (even_shelf h ok) d e hd)

    pub read_from_other : (e : ℕ) → e < h.v → e ≢ d → read_from h 0 (depth h) e ≡ h.T * h.k * h.lambda
    read_from_other e he ne = shared-stripes e ne ∙ pair_stripes h ok d e hd he (λ x. ne (sym x))

    pub read_from_lost : read_from h 0 (depth h) d ≡ 0
    unfolding read_from
    read_from_lost = rw lost

    pub read_from_outside : (e : ℕ) → h.v ≤ e → read_from h 0 (depth h) e ≡ 0
    read_from_outside e l =
        let ne : e ≢ d = omega (arith, hd) in
        shared-stripes e ne ∙ count_none _ (stripes (layout_in h)) (λ s hs. rw (none_on s e l) (and-false (on_disk h s d)))

    -- in one statement
    pub read_from_is : (e : ℕ) → read_from h 0 (depth h) e ≡ cond (ltb e h.v && not (eqb e d)) (h.T * h.k * h.lambda) 0
    read_from_is e = cases (ltb e h.v) inside (λ t. rw t (read_from_outside e (ltb-false e h.v t)))
      where
        inside : ltb e h.v ≡ true → read_from h 0 (depth h) e ≡ cond (ltb e h.v && not (eqb e d)) (h.T * h.k * h.lambda) 0
        inside t = rw t (cases (eqb e d)
            (λ p. rw p (ap (read_from h 0 (depth h)) (eqb-true e d p) ∙ read_from_lost))
            (λ p. rw p (read_from_other e (ltb-true e h.v t) (eqb-false e d p))))

-- ---- stripe write

module _ (h : Shelf) (ok : is_shelf h ≡ true) (s : ℕ) where
  pub stripe_writes_whole : is_whole h.loss ≡ true → stripe_writes h s ≡ h.k
  unfolding stripe_writes
  stripe_writes_whole e =
      omega (arith, count-rest (λ i. present h (unit_in h s i)) h.k, count_none (λ i. not (present h (unit_in h s i))) h.k (λ i hi. ap not (whole-present h e (unit_in h s i))))

  -- all but the unit on the lost disk, if the stripe has one
  pub stripe_writes_lost : (d : ℕ) → is_lost h d ≡ true → s < stripes (layout_in h) → stripe_writes h s ≡ cond (on_disk h s d) (h.k - 1) h.k
  unfolding stripe_writes
  stripe_writes_lost d e hs = cases (on_disk h s d) meets apart
    where
      rest : count (λ i. present h (unit_in h s i)) h.k + count (λ i. not (present h (unit_in h s i))) h.k ≡ h.k
      rest = count-rest (λ i. present h (unit_in h s i)) h.k

      meets : on_disk h s d ≡ true → stripe_writes h s ≡ cond (on_disk h s d) (h.k - 1) h.k
      meets t =
          let (i, at) = on_disk-unit h ok s hs d t in
          let gone : present h (unit_in h s i) ≡ false = (lost_exactly h ok s hs d i e).1 at.disk in
          let one = count_unique (λ i. not (present h (unit_in h s i))) h.k i at.below (ap not gone)
          (λ j hj p. one_absent h ok s j i hs hj at.below (not-true _ p) gone) in
          rw t (omega (arith, rest, one))

      apart : on_disk h s d ≡ false → stripe_writes h s ≡ cond (on_disk h s d) (h.k - 1) h.k
      apart t =
          let none = count_none (λ i. not (present h (unit_in h s i))) h.k
          (λ i hi. fails _ (λ p.
          let on : disk_at h (unit_in h s i) ≡ d = (lost_exactly h ok s hs d i e).0 (not-true _ p) in
          true≢false (sym (unit_on_disk h ok s hs i hi) ∙ ap (on_disk h s) on ∙ t))) in
          rw t (omega (arith, rest, none))
