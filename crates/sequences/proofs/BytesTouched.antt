-- No call of a sequence touches a byte that document 01 does not let it touch. Assumes nothing.
use mathlib.Core.Path.{◌≡◌, refl, sym, ap, ap₂, ◌∙◌}
use mathlib.Core.Bool.{Bool, true, false, ◌&&◌, ◌||◌, and-or_distrib_left}
use mathlib.Core.List.{List, [], ◌∷◌, ◌++◌}
use Prim.Native.Nat.{ℕ, ◌-◌, ◌/◌, ◌%◌, ◌<◌}
use native.Mathlib.Nat.{mod-lt, div-add-mod', div-lt_iff_lt-mul}
use native.Mathlib.Omega.{arith}
use lib.Dec.{eqb}
use lib.ListN.{length, get_or}
use lib.Pow.{pow_pos}
use borrow.Author.Tests.{eq-eqb, eqb-true, not-false}
use Rattle.std.specs.Prelude.{Ok, Err, Result}
use Rattle.parity.specs.Calls.{cost_of, losing_of}
use Rattle.design.specs.Refusals.{verdict}
use Rattle.design.specs.declared.Refusal.{Refusal}
use Rattle.design.specs.declared.Shelf.{Shelf}
use Rattle.design.specs.Count.{count}
use Rattle.design.specs.Shelf.{is_shelf}
use Rattle.design.proofs.Counting.{alike, both, both_of, count_ext}
use Rattle.placement.specs.Layout.{layout_in, stripes, stripe_of, j_of}
use Rattle.parity.specs.declared.Cost.{Cost}
use Rattle.parity.specs.Units.{unit_at}
use Rattle.parity.specs.Stripe.{unit_size, units, image_size, unit_in, stripe_here, index_here, present}
use Rattle.parity.proofs.By.{by_accepted}
use Rattle.parity.specs.inner.Shapes.{Held}
use Rattle.parity.proofs.Accepted.{call_stripe-lt, call_data_lt}
use Rattle.parity.proofs.Home.{stripe_home, index_home, unit_home}
use Rattle.parity.proofs.Put.{unit-byte}
use Rattle.parity.proofs.Refused.{NoCost, read_refused, write_refused, stripe_write_refused, lose_refused, rebuild_refused}
use Rattle.parity.proofs.Sets.{write_set, stripe_set}
use Rattle.parity.proofs.PromisedWrite.{write_call, write_counts, write_keeps}
use Rattle.parity.proofs.PromisedStripe.{stripe_write_counts, stripe_write_keeps}
use Rattle.parity.proofs.PromisedRebuild.{rebuild_keeps}
use Rattle.sequences.specs.Sequence.{Event, write, write_stripe, lose, rebuild, look, disturb, read, State, Step, Run}
use Rattle.sequences.specs.Touched.{may_change, verdict_of, Spared}
use Rattle.sequences.proofs.Verdicts.{by-verdict}
use Rattle.sequences.proofs.Moments.{moment, run_append}
use Rattle.sequences.proofs.Shelves.{shelf_step}
use Rattle.sequences.proofs.Remembers.{run_remembers}

-- ---- units

-- data j of stripe s and the parity are those that a write to data j writes
write_set_lem : (h : Shelf) → is_shelf h ≡ true → (s j n : ℕ) → s < stripes (layout_in h) → j < h.k - 1 → n < units h
    → ((eqb n (unit_in h s j) || eqb n (unit_in h s (h.k - 1))) && present h n) ≡ write_set h s j n
unfolding write_set
write_set_lem h ok s j n hs hj hn =
    ap (λ (b : Bool). b && present h n)
    (ap₂ ◌||◌ (one j (omega arith)) (one (h.k - 1) (omega arith))
    ∙ sym (and-or_distrib_left (eqb (stripe_here h n) s) (eqb (index_here h n) j) (eqb (index_here h n) (h.k - 1))))
  where
    one : (i : ℕ) → i < h.k → eqb n (unit_in h s i) ≡ (eqb (stripe_here h n) s && eqb (index_here h n) i)
    one i hi = alike _ _
        (λ t.
        let e : n ≡ unit_in h s i = eqb-true n _ t in
        both_of
        (eq-eqb _ s (ap (stripe_here h) e ∙ stripe_home h ok s i hs hi))
        (eq-eqb _ i (ap (index_here h) e ∙ index_home h ok s i hs hi)))
        (λ t.
        let p = both (eqb (stripe_here h n) s) (eqb (index_here h n) i) t in
        eq-eqb n _ (sym (unit_home h ok n hn) ∙ ap₂ (unit_in h) (eqb-true (stripe_here h n) s p.0) (eqb-true (index_here h n) i p.1)))

-- the images of x and y have the same unit n
abbrev SameUnit : State → State → ℕ → Type 0
SameUnit x y n = unit_at (unit_size x.shelf) y.image n ≡ unit_at (unit_size x.shelf) x.image n

module _ (x y : State) (stored : Held x.shelf x.image) where
  abbrev h : Shelf
  h = x.shelf

  same_unit : y.image ≡ x.image → (n : ℕ) → SameUnit x y n
  same_unit e n = ap (λ (image : List ℕ). unit_at (unit_size h) image n) e

  unit_kept : (e : Event) → Step x e y → (n : ℕ) → n < units x.shelf → may_change x.shelf e n ≡ false → SameUnit x y n
  unfolding may_change stripe_set
  unit_kept (write a unit answer) (P, s) n hn out = by-verdict (verdict answer)
      (λ v.
      let w = write_call h a unit x.image answer y.image P v in
      (write_keeps h a unit x.image answer y.image P v).unit n hn
      (sym (write_set_lem h stored.shelf (stripe_of (layout_in h) a) (j_of (layout_in h) a) n (call_stripe-lt w) (call_data_lt w) hn) ∙ sym (by_accepted _ false v) ∙ out))
      (λ r v. same_unit (write_refused h x.image r a unit answer y.image v P).1 n)
  unit_kept (write_stripe s buffer answer) (P, e) n hn out = by-verdict (verdict answer)
      (λ v. (stripe_write_keeps h s buffer x.image answer y.image P v).unit n hn (sym (by_accepted _ false v) ∙ out))
      (λ r v. same_unit (stripe_write_refused h x.image r s buffer answer y.image v P).1 n)
  unit_kept (lose d answer) (P, s, i) n hn out = same_unit i n
  unit_kept (rebuild answer) (P, s) n hn out = by-verdict (verdict answer)
      (λ v. (rebuild_keeps h x.image answer y.image P v).unit n hn (sym (by_accepted _ false v) ∙ out))
      (λ r v. same_unit (rebuild_refused h x.image r answer y.image P v).3 n)
  unit_kept (look call) (P, e) n hn out = same_unit (ap (λ (x : State). x.image) e) n
  unit_kept disturb (P, s) n hn out = P.elsewhere n hn (not-false _ out)

  -- ---- bytes

  byte_in : (image : List ℕ) (i : ℕ) → get_or image i 0 ≡ get_or (unit_at (unit_size h) image (i / unit_size h)) (i % unit_size h) 0
  byte_in image i =
      ap (λ (j : ℕ). get_or image j 0) (sym (div-add-mod' i (unit_size h)))
      ∙ sym (unit-byte (unit_size h) image (i / unit_size h) (i % unit_size h) (mod-lt i (pow_pos h.u)))

  byte_kept : (e : Event) → Step x e y → (i : ℕ) → i < length x.image → may_change x.shelf e (i / unit_size x.shelf) ≡ false → get_or y.image i 0 ≡ get_or x.image i 0
  byte_kept e s i hi out =
      let hn : i / unit_size h < units h = (div-lt_iff_lt-mul (pow_pos h.u)).1 (omega (arith, stored.size)) in
      byte_in y.image i
      ∙ ap (λ (u : List ℕ). get_or u (i % unit_size h) 0) (unit_kept e s (i / unit_size h) hn out)
      ∙ sym (byte_in x.image i)

-- ---- a refused call

both_same : (x y : State) → y.shelf ≡ x.shelf → y.image ≡ x.image → y ≡ x
both_same x y s i = ap₂ (λ (h : Shelf) (image : List ℕ). record { shelf = h; image = image }) s i

refused_nothing : (x y : State) (e : Event) → Step x e y → (r : Refusal) → verdict_of e ≡ Err r → y ≡ x
unfolding verdict_of
refused_nothing x y (write a unit answer) (P, s) r v = both_same x y s (write_refused x.shelf x.image r a unit answer y.image v P).1
refused_nothing x y (write_stripe t buffer answer) (P, s) r v = both_same x y s (stripe_write_refused x.shelf x.image r t buffer answer y.image v P).1
refused_nothing x y (lose d answer) (P, s, i) r v =
    both_same x y (s ∙ ap (losing_of x.shelf) P ∙ lose_refused x.shelf d r (sym (ap verdict P) ∙ v)) i
refused_nothing x y (rebuild answer) (P, s) r v =
    let q = rebuild_refused x.shelf x.image r answer y.image P v in
    both_same x y (s ∙ q.1) q.3
refused_nothing x y (look call) (P, e) r v = e
refused_nothing x y disturb (P, s) r v = let z : ◌≡◌ {A = ℕ} 0 1 = cc in absurd (omega arith)

-- ---- in a sequence

-- "The image and every other place not named keep their bytes"; "other refusals hand back the shelf they got .. and leave
-- image, unit buffers .. at their entry values"
pub step_spares : (sheet : List ℕ) (before : List Event) (x y : State) (e : Event) → Run sheet before x → Step x e y → Spared x e y
step_spares sheet before x y e R s =
    let K = run_remembers sheet before x R in
    let K' = run_remembers sheet (before ++ e ∷ []) y (run_append before e R s) in
    let shelf = shelf_step x.shelf x.shelf.loss x y e s refl in
    record {
      shelf = shelf;
      size = K'.stored.size ∙ ap (λ (h : Shelf). image_size h) shelf ∙ sym K.stored.size;
      bytes = byte_kept x y K.stored e s;
      refused = refused_nothing x y e s;
    }

-- an accepted write may change as many units as it answers that it has written
pub write_changes : (x y : State) (a : ℕ) (unit : List ℕ) (answer : Result Cost Refusal) → Step x (write a unit answer) y → verdict answer ≡ Ok tt
    → count (may_change x.shelf (write a unit answer)) (units x.shelf) ≡ (cost_of answer).written
unfolding may_change
write_changes x y a unit answer (P, s) v =
    let h : Shelf = x.shelf in
    let w = write_call h a unit x.image answer y.image P v in
    count_ext _ _ (units h) (λ n hn. by_accepted _ false v ∙ write_set_lem h w.stored.shelf (stripe_of (layout_in h) a) (j_of (layout_in h) a) n (call_stripe-lt w) (call_data_lt w) hn)
    ∙ sym (write_counts h a unit x.image answer y.image P v).1

pub stripe_write_changes : (x y : State) (t : ℕ) (buffer : List ℕ) (answer : Result Cost Refusal) → Step x (write_stripe t buffer answer) y → verdict answer ≡ Ok tt
    → count (may_change x.shelf (write_stripe t buffer answer)) (units x.shelf) ≡ (cost_of answer).written
unfolding may_change stripe_set
stripe_write_changes x y t buffer answer (P, s) v =
    count_ext _ _ (units x.shelf) (λ n hn. by_accepted _ false v) ∙ sym (stripe_write_counts x.shelf t buffer x.image answer y.image P v).1

-- a refused read leaves the buffer too, and counts nothing
pub refused_read_leaves : (sheet : List ℕ) (before rest : List Event) (z : State) (a : ℕ) (buffer after : List ℕ) (answer : Result Cost Refusal) (r : Refusal)
    → Run sheet (before ++ look (read a buffer answer after) ∷ rest) z → verdict answer ≡ Err r → NoCost r answer × (after ≡ buffer)
refused_read_leaves sheet before rest z a buffer after answer r R v =
    let m = moment before R in
    read_refused m.here.shelf m.here.image r a buffer answer after v m.step.0
