-- No call takes a unit of the lost disk, and none but a rebuild writes one. Assumes nothing.
use mathlib.Core.Path.{◌≡◌, sym, ap, ◌∙◌}
use mathlib.Core.Logic.{◌≢◌}
use mathlib.Core.Bool.{true, false, not, cond, ◌&&◌, true≢false}
use Prim.Native.Nat.{ℕ, ◌-◌, ◌<◌}
use native.Mathlib.Omega.{arith}
use lib.Dec.{eqb}
use borrow.Author.Tests.{eq-eqb, eqb-true, eqb-false, not-true}
use Rattle.design.specs.declared.Shelf.{Shelf}
use Rattle.design.specs.Loss.{is_lost}
use Rattle.design.specs.Shelf.{is_shelf}
use Rattle.design.proofs.Counting.{both}
use Rattle.placement.specs.Layout.{layout_in, stripes}
use Rattle.parity.specs.Stripe.{units, unit_in, disk_at, stripe_here, index_here, present}
use Rattle.parity.specs.Calls.{on_disk}
use Rattle.parity.proofs.Cases.{cases}
use Rattle.parity.proofs.Home.{index_here-lt, unit_home, beside_absent}
use Rattle.parity.proofs.Present.{present_is}
use Rattle.parity.proofs.Sets.{read_set, data_or_parity, write_read_set, write_set, stripe_set, rebuild_set}

module _ (h : Shelf) (ok : is_shelf h ≡ true) (n : ℕ) (hn : n < units h) where
  -- n is its unit of the stripe that it stands in
  at_home : (s : ℕ) → eqb (stripe_here h n) s ≡ true → present h n ≡ present h (unit_in h s (index_here h n))
  at_home s e =
      ap (present h) (sym (unit_home h ok n hn)) ∙ ap (λ (s : ℕ). present h (unit_in h s (index_here h n))) (eqb-true (stripe_here h n) s e)

  -- it stands beside a lost unit
  beside : (s i : ℕ) → s < stripes (layout_in h) → i < h.k → eqb (stripe_here h n) s ≡ true → present h (unit_in h s i) ≡ false → index_here h n ≢ i → present h n ≡ true
  beside s i hs hi e gone ne = at_home s e ∙ beside_absent h ok s i (index_here h n) hs hi (index_here-lt h ok n hn) gone ne

  -- it is a unit that is present
  here : (s i : ℕ) → eqb (stripe_here h n) s ≡ true → index_here h n ≡ i → present h (unit_in h s i) ≡ true → present h n ≡ true
  here s i e q p = at_home s e ∙ ap (λ (i : ℕ). present h (unit_in h s i)) q ∙ p

  pub read-present : (s i : ℕ) → s < stripes (layout_in h) → i < h.k → read_set h s i n ≡ true → present h n ≡ true
  unfolding read_set
  read-present s i hs hi t = cases (present h (unit_in h s i))
      (λ p. here s i parts.0 (eqb-true _ i (rw p at parts.1)) p)
      (λ p. beside s i hs hi parts.0 p (eqb-false _ i (not-true _ (rw p at parts.1))))
    where
      parts : (eqb (stripe_here h n) s ≡ true) × (cond (present h (unit_in h s i)) (eqb (index_here h n) i) (not (eqb (index_here h n) i)) ≡ true)
      parts = both _ _ t

  module _ (s j : ℕ) (hs : s < stripes (layout_in h)) (hj : j < h.k - 1) where
    pub write_read-present : write_read_set h s j n ≡ true → present h n ≡ true
    unfolding write_read_set
    write_read-present t = cases (present h (unit_in h s j)) whole lost
      where
        parts : (eqb (stripe_here h n) s ≡ true)
            × (cond (present h (unit_in h s j)) (present h (unit_in h s (h.k - 1)) && data_or_parity h j (index_here h n)) (not (data_or_parity h j (index_here h n))) ≡ true)
        parts = both _ _ t

        whole : present h (unit_in h s j) ≡ true → present h n ≡ true
        whole p =
            let q = both (present h (unit_in h s (h.k - 1))) (data_or_parity h j (index_here h n)) (rw p at parts.1) in
            cases (eqb (index_here h n) j)
            (λ d. here s j parts.0 (eqb-true _ j d) p)
            (λ d. here s (h.k - 1) parts.0 (eqb-true _ _ (rw d at q.1)) q.0)

        lost : present h (unit_in h s j) ≡ false → present h n ≡ true
        lost p =
            let out : data_or_parity h j (index_here h n) ≡ false = not-true _ (rw p at parts.1) in
            beside s j hs (omega arith) parts.0 p (λ d. true≢false (rw (eq-eqb (index_here h n) j d) at out))

    pub write_present : write_set h s j n ≡ true → present h n ≡ true
    unfolding write_set
    write_present t = (both (eqb (stripe_here h n) s && data_or_parity h j (index_here h n)) (present h n) t).1

  pub stripe_write_present : (s : ℕ) → stripe_set h s n ≡ true → present h n ≡ true
  unfolding stripe_set
  stripe_write_present s t = (both (eqb (stripe_here h n) s) (present h n) t).1

  pub rebuild_present : (d e : ℕ) → is_lost h d ≡ true → rebuild_set h d e n ≡ true → present h n ≡ true
  unfolding rebuild_set
  rebuild_present d e lost t =
      let p = both (eqb (disk_at h n) e && not (eqb e d)) (on_disk h (stripe_here h n) d) t in
      let q = both (eqb (disk_at h n) e) (not (eqb e d)) p.0 in
      present_is h d lost n ∙ ap (λ (x : ℕ). not (eqb x d)) (eqb-true (disk_at h n) e q.0) ∙ q.1
