-- Counts over the units of the image: those of a stripe, and those of a disk. Assumes nothing.
use mathlib.Core.Path.{◌≡◌, sym, ap, ◌∙◌}
use mathlib.Core.Bool.{Bool, true, ◌&&◌}
use Prim.Native.Nat.{ℕ, ◌+◌, ◌*◌, ◌/◌, ◌%◌, ◌<◌}
use native.Mathlib.Nat.{mod-lt, div-add-mod'}
use lib.Arith.{digits_lt, digits_div, digits_mod}
use lib.Dec.{eqb}
use borrow.Author.Tests.{eq-eqb, eqb-true}
use Rattle.design.specs.declared.Shelf.{Shelf}
use Rattle.design.specs.Count.{count}
use Rattle.design.specs.Shelf.{is_shelf}
use Rattle.design.proofs.Counting.{alike, both, both_of, count_ext}
use Rattle.placement.specs.Layout.{layout_in, stripes}
use Rattle.parity.specs.Stripe.{depth, units, unit_in, disk_at, stripe_here, index_here}
use Rattle.parity.proofs.Counting.{count-placed}
use Rattle.parity.proofs.Home.{depth_pos, unit-lt, stripe_home, index_home, index_here-lt, unit_home}

module _ (h : Shelf) (ok : is_shelf h ≡ true) where
  -- of the units of stripe s
  pub stripe-count : (f : ℕ → Bool) (s : ℕ) → s < stripes (layout_in h)
      → count (λ n. eqb (stripe_here h n) s && f n) (units h) ≡ count (λ i. f (unit_in h s i)) h.k
  stripe-count f s hs =
      count-placed (λ n. eqb (stripe_here h n) s && f n) (λ i. f (unit_in h s i)) (unit_in h s) (index_here h) h.k (units h)
      (λ i hi. unit-lt h ok s i hs hi) (index_here-lt h ok) (λ i hi. index_home h ok s i hs hi)
      (λ n hn. alike _ _ (there n hn) (back n hn))
    where
      there : (n : ℕ) → n < units h → (eqb (stripe_here h n) s && f n) ≡ true → (f (unit_in h s (index_here h n)) && eqb (unit_in h s (index_here h n)) n) ≡ true
      there n hn t =
          let p = both (eqb (stripe_here h n) s) (f n) t in
          let e : unit_in h s (index_here h n) ≡ n = ap (λ (s : ℕ). unit_in h s (index_here h n)) (sym (eqb-true _ s p.0)) ∙ unit_home h ok n hn in
          both_of (ap f e ∙ p.1) (eq-eqb _ n e)

      back : (n : ℕ) → n < units h → (f (unit_in h s (index_here h n)) && eqb (unit_in h s (index_here h n)) n) ≡ true → (eqb (stripe_here h n) s && f n) ≡ true
      back n hn t =
          let p = both (f (unit_in h s (index_here h n))) (eqb (unit_in h s (index_here h n)) n) t in
          let e : unit_in h s (index_here h n) ≡ n = eqb-true _ n p.1 in
          both_of (eq-eqb _ s (ap (stripe_here h) (sym e) ∙ stripe_home h ok s (index_here h n) hs (index_here-lt h ok n hn))) (ap f (sym e) ∙ p.0)

  pub index_count : (f : ℕ → Bool) (s : ℕ) → s < stripes (layout_in h)
      → count (λ n. eqb (stripe_here h n) s && f (index_here h n)) (units h) ≡ count f h.k
  index_count f s hs = stripe-count (λ n. f (index_here h n)) s hs ∙ count_ext _ f h.k (λ i hi. ap f (index_home h ok s i hs hi))

  -- of the units of disk d, by their offsets
  pub disk-count : (f : ℕ → Bool) (d : ℕ) → d < h.v → count (λ n. eqb (disk_at h n) d && f (n % depth h)) (units h) ≡ count f (depth h)
  disk-count f d hd =
      count-placed (λ n. eqb (disk_at h n) d && f (n % depth h)) f (λ o. d * depth h + o) (λ n. n % depth h) (depth h) (units h)
      (λ o ho. digits_lt hd ho) (λ n hn. mod-lt n (depth_pos h ok)) (λ o ho. digits_mod d ho)
      (λ n hn. alike _ _ (there n) (back n))
    where
      there : (n : ℕ) → (eqb (disk_at h n) d && f (n % depth h)) ≡ true → (f (n % depth h) && eqb (d * depth h + n % depth h) n) ≡ true
      there n t =
          let p = both (eqb (disk_at h n) d) (f (n % depth h)) t in
          both_of p.1 (eq-eqb _ n (ap (λ (x : ℕ). x * depth h + n % depth h) (sym (eqb-true (disk_at h n) d p.0)) ∙ div-add-mod' n (depth h)))

      back : (n : ℕ) → (f (n % depth h) && eqb (d * depth h + n % depth h) n) ≡ true → (eqb (disk_at h n) d && f (n % depth h)) ≡ true
      back n t =
          let p = both (f (n % depth h)) (eqb (d * depth h + n % depth h) n) t in
          both_of (eq-eqb _ d (ap (λ (x : ℕ). x / depth h) (sym (eqb-true _ n p.1)) ∙ digits_div d (mod-lt n (depth_pos h ok)))) p.0
