-- The stores of a stripe write, one after another and the lost unit left out, come to what it leaves. Assumes nothing.
use mathlib.Core.Path.{◌≡◌, refl, sym, ap, ◌∙◌}
use mathlib.Core.Bool.{Bool, true, false, ◌&&◌, ◌||◌, and-true, and-false}
use mathlib.Core.List.{List}
use Prim.Native.Nat.{ℕ, ◌+◌, ◌-◌, ◌*◌, ◌≤◌, ◌<◌}
use native.Mathlib.Omega.{arith}
use lib.Dec.{ltb, eqb}
use lib.ListN.{length}
use borrow.Author.Tests.{lt-ltb, le-ltb}
use Rattle.design.specs.declared.Shelf.{Shelf}
use Rattle.design.specs.Shelf.{is_shelf}
use Rattle.placement.specs.Layout.{layout_in, stripes}
use Rattle.parity.specs.Stripe.{unit_size, units, image_size, unit_in, stripe_here, index_here, present}
use Rattle.parity.specs.inner.Stores.{put_unit}
use Rattle.parity.specs.Calls.{with_parity, stripe_written}
use Rattle.parity.proofs.Cases.{below_next}
use Rattle.parity.proofs.Patch.{Patched, patched_none, patched_test, patched_is}
use Rattle.parity.proofs.Home.{index_home, index_here-lt}
use Rattle.parity.proofs.Written.{with_parity-length, stripe-written-sized}
use Rattle.parity.proofs.Stores.{is_unit, spread, unit_is, patched_store}

-- unit n is one of stripe s before i, and present
abbrev pub earlier : Shelf → ℕ → ℕ → ℕ → Bool
earlier h s i n = eqb (stripe_here h n) s && ltb (index_here h n) i && present h n

-- the units of stripe s before i are written, the lost one left out
abbrev pub StripeBegun : Shelf → List ℕ → ℕ → List ℕ → ℕ → List ℕ → Type 0
StripeBegun h image s buffer i now = Patched h image (earlier h s i) (λ n. with_parity h buffer (index_here h n)) now

module _ (h : Shelf) (ok : is_shelf h ≡ true) (image : List ℕ) (len : length image ≡ image_size h) where
  module _ (s : ℕ) (buffer : List ℕ) (hb : length buffer ≡ (h.k - 1) * unit_size h) where
    pub stripe_none : StripeBegun h image s buffer 0 image
    stripe_none = patched_test h image _ (λ n. false) _ image none (patched_none h image _ len)
      where
        none : (n : ℕ) → n < units h → false ≡ earlier h s 0 n
        none n hn =
            let l : 0 ≤ index_here h n = omega arith in
            rw (le-ltb (index_here h n) 0 l, and-false (eqb (stripe_here h n) s))

    module _ (i : ℕ) (hs : s < stripes (layout_in h)) (hi : i < h.k) (now : List ℕ) (B : StripeBegun h image s buffer i now) where
      one_more : (here : Bool) → present h (unit_in h s i) ≡ here → (n : ℕ) → n < units h → ((is_unit h s i n && here) || earlier h s i n) ≡ earlier h s (i + 1) n
      one_more here p n hn =
          spread (eqb (stripe_here h n) s) (eqb (index_here h n) i) (ltb (index_here h n) i) (λ e. sym p ∙ ap (present h) (unit_is h ok s i n hn e)) (λ e. refl)
          ∙ ap (λ (b : Bool). eqb (stripe_here h n) s && b && present h n) (below_next (index_here h n) i)

      pub stripe-put : present h (unit_in h s i) ≡ true → StripeBegun h image s buffer (i + 1) (put_unit (unit_size h) now (unit_in h s i) (with_parity h buffer i))
      stripe-put p =
          patched_test h image _ _ (earlier h s (i + 1)) _ (λ n hn. ap (λ (b : Bool). b || earlier h s i n) (sym (and-true (is_unit h s i n))) ∙ one_more true p n hn)
          (patched_store h ok image _ (earlier h s i) now B s i hs hi (with_parity h buffer i) (with_parity-length h ok image len s buffer hb i hi) (ap (with_parity h buffer) (index_home h ok s i hs hi)))

      pub stripe_skip : present h (unit_in h s i) ≡ false → StripeBegun h image s buffer (i + 1) now
      stripe_skip p =
          patched_test h image _ (earlier h s i) (earlier h s (i + 1)) now
          (λ n hn. ap (λ (b : Bool). b || earlier h s i n) (sym (and-false (is_unit h s i n))) ∙ one_more false p n hn) B

    pub stripe-all : (now : List ℕ) → StripeBegun h image s buffer h.k now → now ≡ stripe_written h image s buffer
    unfolding stripe_written
    stripe-all now B =
        patched_is h image _ _ now len (stripe-written-sized h ok image len s buffer hb _)
        (patched_test h image _ _ _ now (λ n hn. rw (lt-ltb (index_here h n) h.k (index_here-lt h ok n hn), and-true (eqb (stripe_here h n) s))) B)
