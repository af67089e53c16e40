-- A rebuild that stores the units of the lost disk one after another, each as the exclusive-or of the others as they then
-- are, comes to what it leaves. Assumes nothing.
use mathlib.Core.Path.{◌≡◌, sym, ap, ◌∙◌}
use mathlib.Core.Bool.{Bool, true, false, not, ◌&&◌, and-false}
use mathlib.Core.List.{List}
use Prim.Native.Nat.{ℕ, ◌<◌}
use lib.Dec.{eqb}
use lib.ListN.{length}
use borrow.Author.Tests.{eqb-true}
use Rattle.design.specs.declared.Shelf.{Shelf}
use Rattle.design.specs.Shelf.{is_shelf}
use Rattle.placement.specs.Layout.{layout_in, stripes}
use Rattle.parity.specs.Units.{unit_at, put}
use Rattle.parity.specs.Stripe.{unit_size, units, image_size, unit_in, stripe_here, index_here, present, cell, others}
use Rattle.parity.specs.inner.Stores.{put_unit}
use Rattle.parity.specs.Calls.{between, restores, restored}
use Rattle.parity.proofs.Cases.{cases}
use Rattle.parity.proofs.Patch.{Patched, patched_none, patched_put, patched_test, patched_is}
use Rattle.parity.proofs.Home.{unit-lt, stripe_here-lt, index_here-lt, unit_home, beside_absent}
use Rattle.parity.proofs.Cells.{others_ext, others-length}
use Rattle.parity.proofs.Rebuilt.{restored-sized}

-- the lost units that pass `done` are restored
abbrev pub Restored : Shelf → List ℕ → (ℕ → Bool) → List ℕ → Type 0
Restored h image done now =
    Patched h image (λ n. done n && not (present h n)) (λ n. others h image (stripe_here h n) (index_here h n)) now

module _ (h : Shelf) (ok : is_shelf h ≡ true) (image : List ℕ) (len : length image ≡ image_size h) where
  pub restored_none : Restored h image (λ n. false) image
  restored_none = patched_none h image _ len

  -- another test that passes the same lost units
  pub restored_test : (done done' : ℕ → Bool) (now : List ℕ) → ((n : ℕ) → n < units h → present h n ≡ false → done n ≡ done' n)
      → Restored h image done now → Restored h image done' now
  restored_test done done' now same R =
      patched_test h image _ _ _ now (λ n hn. cases (present h n)
      (λ e. rw e (and-false (done n) ∙ sym (and-false (done' n))))
      (λ e. ap (λ (b : Bool). b && not (present h n)) (same n hn e))) R

  module _ (done : ℕ → Bool) (now : List ℕ) (R : Restored h image done now) where
    -- a unit that is present is as it was
    kept : (n : ℕ) → n < units h → present h n ≡ true → unit_at (unit_size h) now n ≡ unit_at (unit_size h) image n
    kept n hn e = R.unit n hn ∙ rw (e, and-false (done n))

    -- and so are the others of a lost one
    pub restored-others : (s i : ℕ) → s < stripes (layout_in h) → i < h.k → present h (unit_in h s i) ≡ false → others h now s i ≡ others h image s i
    unfolding cell
    restored-others s i hs hi e =
        others_ext h now image s i (λ j hj ne. kept (unit_in h s j) (unit-lt h ok s j hs hj) (beside_absent h ok s i j hs hi hj e ne))

    -- one more unit
    pub restored-put : (n : ℕ) → n < units h → present h n ≡ false
        → Restored h image (put done n true) (put_unit (unit_size h) now n (others h now (stripe_here h n) (index_here h n)))
    restored-put n hn e =
        let hs = stripe_here-lt h ok n hn in
        let hi = index_here-lt h ok n hn in
        let same = restored-others (stripe_here h n) (index_here h n) hs hi (ap (present h) (unit_home h ok n hn) ∙ e) in
        rw same
        (patched_test h image _ _ _ _ tests (patched_put h image _ _ now R n hn (others-length h ok image len (stripe_here h n) (index_here h n) hs)))
      where
        tests : (m : ℕ) → m < units h → put (λ m. done m && not (present h m)) n true m ≡ (put done n true m && not (present h m))
        tests m hm = cases (eqb m n) (λ t. rw (t, eqb-true m n t, e)) (λ t. rw t)

  pub restored_is : (from to : ℕ) {now : List ℕ} → Restored h image (between h from to) now → now ≡ restored h image from to
  unfolding restores restored
  restored_is from to {now} R = patched_is h image _ _ now len (restored-sized h ok image len _) R
