-- A store to a unit of a stripe, and a test of units taken apart where it says which of them are present. Assumes nothing.
use mathlib.Core.Path.{◌≡◌, refl, sym, ap, ap₂, ◌∙◌}
use mathlib.Core.Bool.{Bool, true, false, cond, ◌&&◌, ◌||◌, or-false, or_self}
use mathlib.Core.List.{List}
use Prim.Native.Nat.{ℕ, ◌<◌}
use lib.Dec.{eqb}
use lib.ListN.{length}
use borrow.Author.Tests.{eq-eqb, eqb-true}
use Rattle.design.specs.declared.Shelf.{Shelf}
use Rattle.design.specs.Shelf.{is_shelf}
use Rattle.design.proofs.Counting.{alike, both, both_of}
use Rattle.placement.specs.Layout.{layout_in, stripes}
use Rattle.parity.specs.Stripe.{unit_size, units, unit_in, stripe_here, index_here}
use Rattle.parity.specs.inner.Stores.{put_unit}
use Rattle.parity.proofs.Patch.{Patched, patched_put, patched_test}
use Rattle.parity.proofs.Home.{unit-lt, stripe_home, index_home, unit_home}

-- unit n is unit i of stripe s
abbrev pub is_unit : Shelf → ℕ → ℕ → ℕ → Bool
is_unit h s i n = eqb (stripe_here h n) s && eqb (index_here h n) i

-- a test that r decides, taken apart where r is p and where it is q
pub spread : (a b c : Bool) {r p q : Bool} → ((a && b) ≡ true → p ≡ r) → ((a && c) ≡ true → q ≡ r)
    → ((a && b && p) || (a && c && q)) ≡ (a && (b || c) && r)
spread false b c P Q = refl
spread true true true {r} P Q = rw (P refl, Q refl) (or_self r)
spread true true false {r} P Q = rw (P refl) (or-false r)
spread true false true P Q = Q refl
spread true false false P Q = refl

module _ (h : Shelf) (ok : is_shelf h ≡ true) where
  module _ (s i n : ℕ) (hn : n < units h) where
    pub unit_is : is_unit h s i n ≡ true → unit_in h s i ≡ n
    unit_is e =
        let p = both (eqb (stripe_here h n) s) (eqb (index_here h n) i) e in
        ap₂ (unit_in h) (sym (eqb-true _ s p.0)) (sym (eqb-true _ i p.1)) ∙ unit_home h ok n hn

    same_unit : s < stripes (layout_in h) → i < h.k → eqb n (unit_in h s i) ≡ is_unit h s i n
    same_unit hs hi = alike _ _
        (λ e. let p : n ≡ unit_in h s i = eqb-true n (unit_in h s i) e in
        rw (p, stripe_home h ok s i hs hi, index_home h ok s i hs hi) (both_of (eq-eqb s s refl) (eq-eqb i i refl)))
        (λ e. eq-eqb n (unit_in h s i) (sym (unit_is e)))

  pub patched_store : (image : List ℕ) (f : ℕ → List ℕ) (on : ℕ → Bool) (now : List ℕ) → Patched h image on f now
      → (s i : ℕ) → s < stripes (layout_in h) → i < h.k → (x : List ℕ) → length x ≡ unit_size h → f (unit_in h s i) ≡ x
      → Patched h image (λ n. is_unit h s i n || on n) f (put_unit (unit_size h) now (unit_in h s i) x)
  patched_store image f on now P s i hs hi x hx e =
      let more = patched_put h image f on now P (unit_in h s i) (unit-lt h ok s i hs hi) (ap length e ∙ hx) in
      rw e at (patched_test h image f _ _ _ (λ n hn. or (eqb n (unit_in h s i)) (on n) ∙ ap (λ (b : Bool). b || on n) (same_unit s i n hn hs hi)) more)
    where
      or : (b c : Bool) → cond b true c ≡ (b || c)
      or true c = refl
      or false c = refl
