-- After any sequence the image keeps the memory of the units last written: each event turns a kept memory into the memory with
-- what it wrote. Assumes nothing.
use mathlib.Core.Path.{◌≡◌, refl, sym, ap, ◌∙◌, fun_ext, subst}
use mathlib.Core.Bool.{Bool, true, false, cond}
use mathlib.Core.List.{List, [], ◌∷◌, ◌++◌}
use Prim.Native.Nat.{ℕ}
use lib.Dec.{eqb}
use Rattle.std.specs.Prelude.{Ok, Err, Result}
use Rattle.design.specs.declared.Loss.{Loss}
use Rattle.design.specs.declared.Shelf.{Shelf}
use Rattle.design.specs.declared.Refusal.{Refusal}
use Rattle.design.specs.Refusals.{Verdict, verdict}
use Rattle.design.specs.Loss.{no_loss, with_loss}
use Rattle.placement.specs.Layout.{layout_in, stripe_of, j_of}
use Rattle.parity.specs.declared.Cost.{Cost}
use Rattle.parity.specs.declared.Rebuilding.{Rebuilding}
use Rattle.parity.specs.Units.{zeros, unit_at}
use Rattle.parity.specs.Stripe.{unit_size}
use Rattle.parity.specs.Calls.{by, Wrote, WroteStripe, Rebuilt, lost, losing_of, rebuilt_shelf}
use Rattle.parity.proofs.By.{by_accepted, by_refused}
use Rattle.parity.proofs.Memory.{Keeps}
use Rattle.parity.proofs.PromisedMemory.{blank_remembers, write_remembers, stripe_write_remembers, lose_remembers, rebuild_remembers}
use Rattle.parity.proofs.Refused.{write_refused, stripe_write_refused, lose_refused, rebuild_refused}
use Rattle.parity.proofs.Survived.{kept_elsewhere}
use Rattle.sequences.specs.Sequence.{Event, write, write_stripe, lose, rebuild, look, disturb, State, Step, Steps, Run, shelf_from}
use Rattle.sequences.specs.Written.{only, written_by, written, last_or, last_written}
use Rattle.sequences.specs.Lost.{loss_by}
use Rattle.sequences.proofs.Verdicts.{by-verdict}
use Rattle.sequences.proofs.Shelves.{shelf_step, opened-whole, written_apart}

-- the memory after an event
abbrev after : Shelf → (ℕ → List ℕ) → Event → ℕ → List ℕ
after h memory e a = last_or (memory a) (written_by h e a)

abbrev Holds : State → (ℕ → List ℕ) → Type 0
Holds x memory = Keeps x.shelf x.image memory

last_append : (x : List ℕ) (first second : List (List ℕ)) → last_or x (first ++ second) ≡ last_or (last_or x first) second
unfolding last_or
last_append x [] second = refl
last_append x (y ∷ first) second = last_append y first second

-- a unit that passes, or none
last_only : (b : Bool) (x y : List ℕ) → last_or y (only b x) ≡ cond b x y
unfolding last_or
last_only true x y = refl
last_only false x y = refl

last_none : (x : List ℕ) → last_or x [] ≡ x
unfolding last_or
last_none x = refl

-- what an accepted or a refused write leaves of y
module _ {v : Verdict} (b : Bool) (x y : List ℕ) where
  last_accepted : v ≡ Ok tt → last_or y (by v (only b x) []) ≡ cond b x y
  last_accepted e = ap (last_or y) (by_accepted (only b x) [] e) ∙ last_only b x y

  last_refused : (r : Refusal) → v ≡ Err r → last_or y (by v (only b x) []) ≡ y
  last_refused r e = ap (last_or y) (by_refused (only b x) [] e) ∙ last_none y

-- another memory that is the same at each address
keeps_ext : (h : Shelf) (image : List ℕ) (memory memory' : ℕ → List ℕ) → ((a : ℕ) → memory' a ≡ memory a) → Keeps h image memory → Keeps h image memory'
keeps_ext h image memory memory' same K = subst (Keeps h image) (sym (fun_ext same)) K

module _ (x y : State) (memory : ℕ → List ℕ) (K : Holds x memory) where
  abbrev h : Shelf
  h = x.shelf

  write_step : (a : ℕ) (unit : List ℕ) (answer : Result Cost Refusal) → Wrote x.shelf x.image a unit answer y.image
      → Keeps x.shelf y.image (after x.shelf memory (write a unit answer))
  unfolding written_by
  write_step a unit answer P = by-verdict (verdict answer)
      (λ v. keeps_ext h y.image _ _ (λ b. last_accepted (eqb b a) unit (memory b) v) (write_remembers h x.image memory K a unit answer y.image P v))
      (λ r v. keeps_ext h y.image memory _ (λ b. last_refused (eqb b a) unit (memory b) r v) (rw (write_refused h x.image r a unit answer y.image v P).1 K))

  stripe_step : (s : ℕ) (buffer : List ℕ) (answer : Result Cost Refusal) → WroteStripe x.shelf x.image s buffer answer y.image
      → Keeps x.shelf y.image (after x.shelf memory (write_stripe s buffer answer))
  unfolding written_by
  stripe_step s buffer answer P = by-verdict (verdict answer)
      (λ v. keeps_ext h y.image _ _ (λ b. last_accepted (eqb (stripe_of (layout_in h) b) s) (unit b) (memory b) v) (stripe_write_remembers h x.image memory K s buffer answer y.image P v))
      (λ r v. keeps_ext h y.image memory _ (λ b. last_refused (eqb (stripe_of (layout_in h) b) s) (unit b) (memory b) r v) (rw (stripe_write_refused h x.image r s buffer answer y.image v P).1 K))
    where
      unit : ℕ → List ℕ
      unit b = unit_at (unit_size h) buffer (j_of (layout_in h) b)

  lose_step : (d : ℕ) (answer : Result Shelf Refusal) → answer ≡ lost x.shelf d → Keeps (losing_of h answer) x.image memory
  lose_step d answer e = rw e (by-verdict (verdict (lost h d))
      (λ v. lose_remembers h x.image memory K d v)
      (λ r v. rw (lose_refused h d r v) K))

  rebuild_step : (answer : Result Rebuilding Refusal) → Rebuilt x.shelf x.image answer y.image → Keeps (rebuilt_shelf h answer) y.image memory
  rebuild_step answer P = by-verdict (verdict answer)
      (λ v. rebuild_remembers h x.image memory K answer y.image P v)
      (λ r v. let q = rebuild_refused h x.image r answer y.image P v in rw (q.1, q.3) K)

  step_remembers : (e : Event) → Step x e y → Keeps y.shelf y.image (after x.shelf memory e)
  unfolding written_by last_or
  step_remembers (write a unit answer) (P, e) = rw e (write_step a unit answer P)
  step_remembers (write_stripe s buffer answer) (P, e) = rw e (stripe_step s buffer answer P)
  step_remembers (lose d answer) (P, e, i) = rw (e, i) (lose_step d answer P)
  step_remembers (rebuild answer) (P, e) = rw e (rebuild_step answer P)
  step_remembers (look call) (P, e) = rw e K
  step_remembers disturb (P, e) = rw e (kept_elsewhere h x.image y.image memory K (P.size ∙ K.stored.size) P.elsewhere)

steps_remember : (h : Shelf) (loss : Loss) (x z : State) (events : List Event) (memory : ℕ → List ℕ) → x.shelf ≡ with_loss h loss → Steps x events z
    → Keeps x.shelf x.image memory → Keeps z.shelf z.image (λ a. last_or (memory a) (written h events a))
unfolding Steps written last_or
steps_remember h loss x z [] memory S e K = rw e K
steps_remember h loss x z (e ∷ events) memory S (y, (s, more)) K =
    keeps_ext z.shelf z.image _ _ same
    (steps_remember h (loss_by e loss) y z events _ (shelf_step h loss x y e s S) more (step_remembers x y memory K e s))
  where
    by-shelf : (a : ℕ) → written_by h e a ≡ written_by x.shelf e a
    by-shelf a = sym (ap (λ (g : Shelf). written_by g e a) S ∙ written_apart h loss e a)

    same : (a : ℕ) → last_or (memory a) (written_by h e a ++ written h events a) ≡ last_or (after x.shelf memory e a) (written h events a)
    same a =
        last_append (memory a) (written_by h e a) (written h events a)
        ∙ ap (λ (u : List (List ℕ)). last_or (last_or (memory a) u) (written h events a)) (by-shelf a)

-- from the blanked shelf on, the units last written are kept
pub run_remembers : (sheet : List ℕ) (events : List Event) (z : State) → Run sheet events z → Keeps z.shelf z.image (last_written (shelf_from sheet) events)
unfolding last_written
run_remembers sheet events z R =
    let h : Shelf = shelf_from sheet in
    let s = R.starts in
    steps_remember h no_loss R.start z events (λ a. zeros (unit_size h)) (s.opens ∙ opened-whole sheet s.accepts) R.steps
    (rw (ap (λ (h : Shelf). unit_size h) s.opens) at (blank_remembers R.start.shelf s.found R.start.image s.blanks))
