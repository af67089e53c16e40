-- The rules of each call stand by rising number, so the one given is "the lowest number that applies"; and when each call is
-- accepted. Assumes nothing.
use mathlib.Core.Path.{◌≡◌, refl, ap}
use mathlib.Core.Logic.{◌↔◌}
use mathlib.Core.Bool.{true, false, not}
use mathlib.Core.List.{List, [], ◌∷◌}
use Prim.Native.Nat.{ℕ, ◌+◌, ◌-◌, ◌*◌, ◌<◌}
use native.Mathlib.Omega.{arith}
use lib.Dec.{ltb, eqb}
use lib.ListN.{length}
use borrow.Author.Tests.{lt-ltb, ltb-true, eq-eqb, eqb-true, not-true}
use Rattle.std.specs.Prelude.{Ok}
use Rattle.design.specs.declared.Shelf.{Shelf}
use Rattle.design.specs.Refusals.{Rule, first_broken, number}
use Rattle.design.specs.Loss.{is_whole}
use Rattle.design.specs.Shelf.{is_shelf, shelf_rule}
use Rattle.design.proofs.Counting.{both, both_of}
use Rattle.design.proofs.Lowest.{rising}
use Rattle.placement.specs.Layout.{layout_in, stripes, stripe_of, j_of}
use Rattle.placement.proofs.Even.{even_shelf}
use Rattle.placement.proofs.Stands.{j-lt, stripe_below}
use Rattle.parity.specs.Stripe.{unit_size, depth, present}
use Rattle.parity.specs.Calls.{image_rule, address_rule, stripe_rule, disk_rule, place_rule, buffer_rule, whole_rule, lost_rule, whole_rules, unit_rules, stripe_rules, lose_rules, rebuild_rules, place_rules, present_rule}
use Rattle.parity.specs.inner.Shapes.{Held, UnitCall, StripeCall}
use Rattle.parity.proofs.Cases.{cases}

-- ---- rule after rule

pub rule_kept : (x : Rule) (rules : List Rule) → (first_broken (x ∷ rules) ≡ Ok tt) ↔ ((x.kept ≡ true) × (first_broken rules ≡ Ok tt))
unfolding first_broken
rule_kept x rules = (parts, λ p. rw p.0 p.1)
  where
    parts : first_broken (x ∷ rules) ≡ Ok tt → (x.kept ≡ true) × (first_broken rules ≡ Ok tt)
    parts e = cases x.kept (λ t. (t, rw t at e)) (λ t. let z : ◌≡◌ {A = ℕ} 0 1 = cc (rw t at e) in absurd (omega arith))

pub image_kept : (h : Shelf) (image : List ℕ) (rules : List Rule)
    → (first_broken (shelf_rule h ∷ image_rule h (length image) ∷ rules) ≡ Ok tt) ↔ (Held h image × (first_broken rules ≡ Ok tt))
image_kept h image rules = (parts, whole)
  where
    parts : first_broken (shelf_rule h ∷ image_rule h (length image) ∷ rules) ≡ Ok tt → Held h image × (first_broken rules ≡ Ok tt)
    parts e =
        let p = (rule_kept (shelf_rule h) (image_rule h (length image) ∷ rules)).0 e in
        let q = (rule_kept (image_rule h (length image)) rules).0 p.1 in
        (record { shelf = p.0; size = eqb-true _ _ q.0 }, q.1)

    whole : Held h image × (first_broken rules ≡ Ok tt) → first_broken (shelf_rule h ∷ image_rule h (length image) ∷ rules) ≡ Ok tt
    whole p =
        (rule_kept (shelf_rule h) (image_rule h (length image) ∷ rules)).1
        (p.0.shelf, (rule_kept (image_rule h (length image)) rules).1 (eq-eqb _ _ p.0.size, p.1))

-- the last two rules of a list, and the last one
last_kept : (x : Rule) → (first_broken (x ∷ []) ≡ Ok tt) ↔ (x.kept ≡ true)
unfolding first_broken
last_kept x = (λ e. ((rule_kept x []).0 e).0, λ e. (rule_kept x []).1 (e, refl))

two_kept : (x y : Rule) → (first_broken (x ∷ y ∷ []) ≡ Ok tt) ↔ ((x.kept ≡ true) × (y.kept ≡ true))
two_kept x y = (
  λ e. let p = (rule_kept x (y ∷ [])).0 e in (p.0, (last_kept y).0 p.1),
  λ p. (rule_kept x (y ∷ [])).1 (p.0, (last_kept y).1 p.1),
)

-- the rules of an image, and one or two more that are kept exactly when P and Q hold
module _ (h : Shelf) (image : List ℕ) (x : Rule) {P : Type 0} (p : (x.kept ≡ true) ↔ P) where
  image_and-one : (first_broken (shelf_rule h ∷ image_rule h (length image) ∷ x ∷ []) ≡ Ok tt) ↔ (Held h image × P)
  image_and-one =
      let at = image_kept h image (x ∷ []) in
      let kept = last_kept x in
      (λ e. let q = at.0 e in (q.0, p.0 (kept.0 q.1)), λ q. at.1 (q.0, kept.1 (p.1 q.1)))

  image_and-two : (y : Rule) {Q : Type 0} → (y.kept ≡ true) ↔ Q → (first_broken (shelf_rule h ∷ image_rule h (length image) ∷ x ∷ y ∷ []) ≡ Ok tt) ↔ (Held h image × P × Q)
  image_and-two y q =
      let at = image_kept h image (x ∷ y ∷ []) in
      let kept = two_kept x y in (
        λ e. let r = at.0 e in let both = kept.0 r.1 in (r.0, p.0 both.0, q.0 both.1),
        λ r. at.1 (r.0, kept.1 (p.1 r.1, q.1 r.2)),
      )

-- a number below another, and a buffer of so many bytes
below_exactly : (a b : ℕ) → (ltb a b ≡ true) ↔ (a < b)
below_exactly a b = (ltb-true a b, lt-ltb a b)

exactly_so_long : (n m : ℕ) → (eqb n m ≡ true) ↔ (n ≡ m)
exactly_so_long n m = (eqb-true n m, eq-eqb n m)

-- ---- blank and scrub

pub whole_rise : (h : Shelf) (n : ℕ) → rising 0 (whole_rules h n) ≡ true
unfolding whole_rules rising number
whole_rise h n = refl

pub record WholeCall (h : Shelf) (image : List ℕ) : Type 0 where
  pub stored : Held h image
  pub whole : is_whole h.loss ≡ true

module _ (h : Shelf) (image : List ℕ) where
  pub whole_accepted : (first_broken (whole_rules h (length image)) ≡ Ok tt) ↔ WholeCall h image
  unfolding whole_rules
  whole_accepted =
      let at = image_and-one h image (whole_rule h) (λ e. e, λ e. e) in
      (λ e. let p = at.0 e in record { stored = p.0; whole = p.1 }, λ w. at.1 (w.stored, w.whole))

-- ---- rebuild

pub rebuild_rise : (h : Shelf) (n : ℕ) → rising 0 (rebuild_rules h n) ≡ true
unfolding rebuild_rules rising number
rebuild_rise h n = refl

pub record LostCall (h : Shelf) (image : List ℕ) : Type 0 where
  pub stored : Held h image
  pub lost : is_whole h.loss ≡ false

pub rebuild_accepted : (h : Shelf) (image : List ℕ) → (first_broken (rebuild_rules h (length image)) ≡ Ok tt) ↔ LostCall h image
unfolding rebuild_rules
rebuild_accepted h image =
    let at = image_and-one h image (lost_rule h) (not-true _, ap not) in
    (λ e. let p = at.0 e in record { stored = p.0; lost = p.1 }, λ w. at.1 (w.stored, w.lost))

-- ---- lose

pub lose_rise : (h : Shelf) (d : ℕ) → rising 0 (lose_rules h d) ≡ true
unfolding lose_rules rising number
lose_rise h d = refl

pub record LoseCall (h : Shelf) (d : ℕ) : Type 0 where
  pub shelf : is_shelf h ≡ true
  pub disk : d < h.v
  pub whole : is_whole h.loss ≡ true

pub lose_accepted : (h : Shelf) (d : ℕ) → (first_broken (lose_rules h d) ≡ Ok tt) ↔ LoseCall h d
unfolding lose_rules
lose_accepted h d =
    let at = rule_kept (shelf_rule h) (disk_rule h d ∷ whole_rule h ∷ []) in
    let kept = two_kept (disk_rule h d) (whole_rule h) in (
      λ e. let q = kept.0 (at.0 e).1 in record { shelf = (at.0 e).0; disk = ltb-true d h.v q.0; whole = q.1 },
      λ w. at.1 (w.shelf, kept.1 (lt-ltb d h.v w.disk, w.whole)),
    )

-- ---- a read, a unit write, show address

pub unit_rise : (h : Shelf) (n a m : ℕ) → rising 0 (unit_rules h n a m) ≡ true
unfolding unit_rules rising number
unit_rise h n a m = refl

module _ (h : Shelf) (image : List ℕ) (a : ℕ) (unit : List ℕ) where
  pub unit_accepted : (first_broken (unit_rules h (length image) a (length unit)) ≡ Ok tt) ↔ UnitCall h image a unit
  unfolding unit_rules
  unit_accepted =
      let at = image_and-two h image (address_rule h a) (below_exactly a _) (buffer_rule h (length unit) 1) (exactly_so_long (length unit) (1 * unit_size h)) in (
        λ e. let p = at.0 e in record { stored = p.0; address = p.1; exact = omega (arith, p.2) },
        λ w. at.1 (w.stored, w.address, omega (arith, w.exact)),
      )

-- the stripe and the data of its address
module _ {h : Shelf} {image : List ℕ} {a : ℕ} {unit : List ℕ} (w : UnitCall h image a unit) where
  pub call_stripe-lt : stripe_of (layout_in h) a < stripes (layout_in h)
  call_stripe-lt = (stripe_below (layout_in h) (even_shelf h w.stored.shelf) a).1 w.address

  pub call_data_lt : j_of (layout_in h) a < h.k - 1
  call_data_lt = j-lt (layout_in h) (even_shelf h w.stored.shelf) a

-- ---- a stripe write

pub stripe_rise : (h : Shelf) (n s m : ℕ) → rising 0 (stripe_rules h n s m) ≡ true
unfolding stripe_rules rising number
stripe_rise h n s m = refl

pub stripe_write_accepted : (h : Shelf) (image : List ℕ) (s : ℕ) (buffer : List ℕ) → (first_broken (stripe_rules h (length image) s (length buffer)) ≡ Ok tt) ↔ StripeCall h image s buffer
unfolding stripe_rules
stripe_write_accepted h image s buffer =
    let at = image_and-two h image (stripe_rule h s) (below_exactly s _) (buffer_rule h (length buffer) (h.k - 1)) (exactly_so_long _ _) in
    (λ e. let p = at.0 e in record { stored = p.0; stripe = p.1; exact = p.2 }, λ w. at.1 (w.stored, w.stripe, w.exact))

-- ---- show place

pub place_rise : (h : Shelf) (n d o : ℕ) → rising 0 (place_rules h n d o) ≡ true
unfolding place_rules rising number
place_rise h n d o = refl

pub record PlaceCall (h : Shelf) (image : List ℕ) (d o : ℕ) : Type 0 where
  pub stored : Held h image
  pub disk : d < h.v
  pub offset : o < depth h
  pub here : present h (d * depth h + o) ≡ true

pub show_place_accepted : (h : Shelf) (image : List ℕ) (d o : ℕ) → (first_broken (place_rules h (length image) d o) ≡ Ok tt) ↔ PlaceCall h image d o
unfolding place_rules
show_place_accepted h image d o =
    let at = image_and-two h image (place_rule h d o) (λ e. e, λ e. e) (present_rule h (d * depth h + o)) (λ e. e, λ e. e) in (
      λ e.
          let p = at.0 e in
          let l = both (ltb d h.v) (ltb o (depth h)) p.1 in
          record { stored = p.0; disk = ltb-true d _ l.0; offset = ltb-true o _ l.1; here = p.2 },
      λ w. at.1 (w.stored, both_of (lt-ltb d _ w.disk) (lt-ltb o _ w.offset), w.here),
    )
