-- The units of the lost disk, offset after offset: the stripe and the unit of it that the code finds at an offset, and that a rebuild
-- may restore them in this order. Assumes nothing.
use mathlib.Core.Path.{◌≡◌, sym, ap, ap₂, ◌∙◌}
use mathlib.Core.Bool.{true, false, not, cond}
use mathlib.Core.List.{List}
use Prim.Native.Nat.{ℕ, ◌+◌, ◌-◌, ◌*◌, ◌/◌, ◌%◌, ◌≤◌, ◌<◌}
use native.Mathlib.Nat.{div-add-mod'}
use native.Mathlib.Omega.{arith}
use lib.Arith.{digits_lt, digits_div, digits_mod}
use lib.Dec.{leb, ltb, eqb}
use lib.ListN.{length, get_or}
use borrow.Author.Tests.{le-ltb, le-leb, leb-true, eq-eqb, eqb-true, not-false}
use Rattle.design.specs.declared.Shelf.{Shelf}
use Rattle.design.specs.Count.{count, nth}
use Rattle.design.specs.Loss.{is_lost}
use Rattle.design.specs.Shelf.{is_shelf}
use Rattle.design.proofs.Counting.{alike, count-le}
use Rattle.placement.specs.Entries.{is_disk}
use Rattle.placement.specs.Layout.{layout_in, stripes, parity_of, stripe_at, position_at}
use Rattle.placement.proofs.Even.{Even, even_shelf}
use Rattle.placement.proofs.Row.{parity_row}
use Rattle.placement.proofs.Undo.{row_there}
use Rattle.placement.proofs.Flat.{some_left, stripe-found, position-found}
use Rattle.parity.specs.Units.{put}
use Rattle.parity.specs.Stripe.{depth, units, image_size, unit_in, disk_at, stripe_here, index_here, present, others}
use Rattle.parity.specs.inner.Shapes.{renewed}
use Rattle.parity.specs.Calls.{between}
use Rattle.parity.proofs.Cases.{cases, below_next}
use Rattle.parity.proofs.Ready.{entries_fit}
use Rattle.parity.proofs.Present.{present_is}
use Rattle.parity.proofs.Home.{stripe_here-lt, index_here-lt, unit_home}
use Rattle.parity.proofs.Meets.{lost_below}
use Rattle.parity.proofs.Restores.{Restored, restored_none, restored_test, restored-put}

-- the unit at offset o of disk d
abbrev unit_on : Shelf → ℕ → ℕ → ℕ
unit_on h d o = d * depth h + o

-- ---- as the code finds it

-- entry m of the list is the one of disk d that has m such before it
abbrev pub Listed : Shelf → ℕ → List ℕ → Type 0
Listed h d entries = (m : ℕ) → m < count (is_disk h.table d) (h.b * h.k) → get_or entries m 0 ≡ nth (is_disk h.table d) (h.b * h.k) m

abbrev pub stripe_for : Shelf → List ℕ → ℕ → ℕ
stripe_for h entries o = o / h.r * h.b + get_or entries (o % h.r) 0 / h.k

-- which unit of its stripe stands at a position
abbrev index_at : ℕ → ℕ → ℕ → ℕ
index_at k parity p = cond (eqb p parity) (k - 1) (cond (ltb p parity) p (p - 1))

abbrev pub index_for : Shelf → List ℕ → ℕ → ℕ
index_for h entries o = index_at h.k (h.k - 1 - o / h.r % h.k) (get_or entries (o % h.r) 0 % h.k)

-- what it has before the first offset: the entries of the lost disk
pub record Prepared (h : Shelf) (lost : ℕ) (entries : List ℕ) : Type 0 where
  pub ok : is_shelf h ≡ true
  pub gone : is_lost h lost ≡ true
  pub listed : Listed h lost entries

module _ (h : Shelf) {lost : ℕ} {entries : List ℕ} (P : Prepared h lost entries) (o : ℕ) where
  E : Even (layout_in h)
  E = even_shelf h P.ok

  disk_below : lost < h.v
  disk_below = lost_below h P.ok lost P.gone

  -- what stands at an offset has an entry in the list
  rank_listed : o % h.r < count (is_disk h.table lost) (h.b * h.k)
  rank_listed = some_left h P.ok lost o disk_below

  pub rank_fits : o % h.r < 2048
  rank_fits = omega (arith, rank_listed, count-le (is_disk h.table lost) (h.b * h.k), entries_fit h P.ok)

  entry_is : get_or entries (o % h.r) 0 ≡ nth (is_disk h.table lost) (h.b * h.k) (o % h.r)
  entry_is = P.listed (o % h.r) rank_listed

  module _ (ho : o < depth h) where
    -- ---- the unit at this offset

    unit-lt : unit_on h lost o < units h
    unit-lt = digits_lt disk_below ho

    unit-disk : disk_at h (unit_on h lost o) ≡ lost
    unit-disk = digits_div lost ho

    unit_offset : unit_on h lost o % depth h ≡ o
    unit_offset = digits_mod lost ho

    unit_gone : present h (unit_on h lost o) ≡ false
    unit_gone = present_is h lost P.gone (unit_on h lost o) ∙ ap not (eq-eqb _ lost unit-disk)

    -- of the lost units it is the one at this offset
    same_unit : (n : ℕ) → present h n ≡ false → eqb n (unit_on h lost o) ≡ eqb (n % depth h) o
    same_unit n e =
        let on-lost : n / depth h ≡ lost = eqb-true (n / depth h) lost (not-false _ (sym (present_is h lost P.gone n) ∙ e)) in
        alike _ _
        (λ t. eq-eqb _ o (ap (λ (m : ℕ). m % depth h) (eqb-true n (unit_on h lost o) t) ∙ unit_offset))
        (λ t. eq-eqb n _ (sym (div-add-mod' n (depth h)) ∙ ap₂ (unit_on h) on-lost (eqb-true (n % depth h) o t)))

    between_next : {from : ℕ} → from ≤ o → (n : ℕ) → present h n ≡ false → put (between h from o) (unit_on h lost o) true n ≡ between h from (o + 1) n
    between_next {from} past n e =
        rw (same_unit n e, ← below_next (n % depth h) o) (cases (eqb (n % depth h) o)
        (λ t. rw (t, le-leb from (n % depth h) (omega (arith, eqb-true (n % depth h) o t))))
        (λ t. rw t))

    -- ---- its stripe, and which unit of it this is

    found : stripe_here h (unit_on h lost o) ≡ stripe_at (layout_in h) lost o
    unfolding stripe_here
    found = ap₂ (stripe_at (layout_in h)) unit-disk unit_offset

    stripe_is : stripe_here h (unit_on h lost o) ≡ stripe_for h entries o
    stripe_is = found ∙ stripe-found h P.ok lost o _ disk_below entry_is

    -- the parity's position depends on the row alone
    parity_is : parity_of (layout_in h) (stripe_here h (unit_on h lost o)) ≡ h.k - 1 - o / h.r % h.k
    parity_is =
        ap (λ (s : ℕ). parity_of (layout_in h) s) found
        ∙ parity_row (layout_in h) E (stripe_at (layout_in h) lost o)
        ∙ ap (λ (x : ℕ). h.k - 1 - x % h.k) (row_there (layout_in h) E lost o disk_below)

    position_is : position_at (layout_in h) (disk_at h (unit_on h lost o)) (unit_on h lost o % depth h) ≡ get_or entries (o % h.r) 0 % h.k
    position_is = ap₂ (position_at (layout_in h)) unit-disk unit_offset ∙ position-found h P.ok lost o _ disk_below entry_is

    index_is : index_here h (unit_on h lost o) ≡ index_for h entries o
    unfolding index_here
    index_is = ap₂ (index_at h.k) parity_is position_is

    pub stripe-lt : stripe_for h entries o < stripes (layout_in h)
    stripe-lt = rw (← stripe_is) (stripe_here-lt h P.ok (unit_on h lost o) unit-lt)

    index_below : index_for h entries o < h.k
    index_below = rw (← index_is) (index_here-lt h P.ok (unit_on h lost o) unit-lt)

    pub index_lt : {i : ℕ} → i ≡ index_for h entries o → i < h.k
    index_lt e = rw e index_below

    -- its number is that of the unit at this offset
    number_is : unit_in h (stripe_for h entries o) (index_for h entries o) ≡ unit_on h lost o
    number_is = ap₂ (unit_in h) (sym stripe_is) (sym index_is) ∙ unit_home h P.ok (unit_on h lost o) unit-lt

    -- the unit at this offset is restored too
    pub restored_next : (image now after : List ℕ) {from i : ℕ} → length image ≡ image_size h → from ≤ o → Restored h image (between h from o) now
        → i ≡ index_for h entries o
        → after ≡ renewed h now (stripe_for h entries o) i (others h now (stripe_for h entries o) i)
        → Restored h image (between h from (o + 1)) after
    restored_next image now after {from} len past R e stored =
        rw (stored, e)
        (restored_test h P.ok image len _ (between h from (o + 1)) _ (λ n hn g. between_next past n g)
        (rw (number_is, ← stripe_is, ← index_is) (restored-put h P.ok image len (between h from o) now R (unit_on h lost o) unit-lt unit_gone)))

-- ---- before the first offset

pub restored-start : (h : Shelf) → is_shelf h ≡ true → (image : List ℕ) → length image ≡ image_size h → (from : ℕ) → Restored h image (between h from from) image
restored-start h ok image len from =
    restored_test h ok image len (λ n. false) (between h from from) image (λ n hn g. sym (none n)) (restored_none h ok image len)
  where
    none : (n : ℕ) → between h from from n ≡ false
    none n = cases (leb from (n % depth h)) (λ t. rw (t, le-ltb (n % depth h) from (leb-true from (n % depth h) t))) (λ t. rw t)
