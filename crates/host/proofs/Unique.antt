-- Two answers that one promise allows are equal, and so is what they leave. Assumes nothing.
use mathlib.Core.Path.{◌≡◌, sym, ap, ◌∙◌}
use mathlib.Core.List.{List, [], ◌∷◌}
use Prim.Native.Nat.{ℕ, ◌*◌, ◌%◌}
use lib.Dec.{eqb}
use lib.ListN.{length}
use borrow.Author.Tests.{eqb-true, eqb-false}
use Rattle.std.specs.Prelude.{Result}
use Rattle.design.specs.declared.Refusal.{Refusal}
use Rattle.design.specs.Refusals.{number_given}
use Rattle.design.specs.declared.Shelf.{Shelf}
use Rattle.design.proofs.WritingBack.{wrote_back_unique}
use Rattle.parity.specs.declared.Cost.{Cost}
use Rattle.parity.specs.declared.Rebuilding.{Rebuilding}
use Rattle.parity.specs.Calls.{ReadOut, Wrote, WroteStripe, cost_of, counts_of}
use Rattle.parity.proofs.Cases.{cases}
use Rattle.parity.proofs.Unique.{blanked_unique, read_out_unique, wrote_unique, wrote_stripe_unique, rebuilt_unique}
use Rattle.host.specs.Numbers.{numbered}
use Rattle.host.specs.Value.{shelf_in}
use Rattle.host.specs.Answers.{Told, Into}
use Rattle.host.specs.Sheets.{HostOpened, HostWroteBack, sized}
use Rattle.host.specs.Places.{HostPlaced, HostLookedUp, HostRan}
use Rattle.host.specs.Stored.{HostBlanked, CostGiven, HostWrote, HostWroteStripe, HostReadOut, HostLost, HostRebuilt, HostScrubbed, place_start, address_start, rebuilt_into}

-- both fit, or none does
into_both : {n : ℕ} {buffer : List ℕ} {r r' : ℕ} {U U' A A' P : Type 0} → Into n buffer r U A → Into n buffer r' U' A'
    → (A → A' → P) → (r ≡ r' → U → U' → P) → P
into_both {n} {buffer} p q fits other =
    cases (eqb (length buffer) (4 * n))
    (λ e. let l = eqb-true (length buffer) (4 * n) e in fits (p.fits l) (q.fits l))
    (λ e. let ne = eqb-false (length buffer) (4 * n) e in let x = p.other ne in let y = q.other ne in other (x.0 ∙ sym y.0) x.1 y.1)

-- ---- the sheet, and the sizes

module _ (x y : List ℕ) (r r' : ℕ) (z z' : List ℕ) where
  pub host_opened_unique : HostOpened x y r z → HostOpened x y r' z' → (r ≡ r') × (z ≡ z')
  host_opened_unique p q = into_both p q (λ a b. (a.0 ∙ sym b.0, a.1 ∙ sym b.1)) (λ e a b. (e, a ∙ sym b))

  pub host_wrote_back_unique : HostWroteBack x y r z → HostWroteBack x y r' z' → (r ≡ r') × (z ≡ z')
  host_wrote_back_unique p q =
      let w = wrote_back_unique (shelf_in x) y p.answer q.answer z z' p.keeps q.keeps in
      (p.gives ∙ ap number_given w.0 ∙ sym q.gives, w.1)

  pub host_blanked_unique : HostBlanked x y r z → HostBlanked x y r' z' → (r ≡ r') × (z ≡ z')
  host_blanked_unique p q =
      let w = blanked_unique (shelf_in x) y p.answer q.answer z z' p.keeps q.keeps in
      (p.gives ∙ ap number_given w.0 ∙ sym q.gives, w.1)

pub sized_unique : (f : Shelf → ℕ) (value : List ℕ) (r r' : ℕ) → r ≡ sized f value → r' ≡ sized f value → r ≡ r'
sized_unique f value r r' p q = p ∙ sym q

-- ---- places

module _ (value : List ℕ) (a b : ℕ) (out : List ℕ) (r r' : ℕ) (z z' : List ℕ) where
  pub host_placed_unique : HostPlaced value a out r z → HostPlaced value a out r' z' → (r ≡ r') × (z ≡ z')
  host_placed_unique p q = into_both p q (λ x y. (x.0 ∙ sym y.0, x.1 ∙ sym y.1)) (λ e x y. (e, x ∙ sym y))

  pub host_looked_up_unique : HostLookedUp value a b out r z → HostLookedUp value a b out r' z' → (r ≡ r') × (z ≡ z')
  host_looked_up_unique p q = into_both p q (λ x y. (x.0 ∙ sym y.0, x.1 ∙ sym y.1)) (λ e x y. (e, x ∙ sym y))

  pub host_ran_unique : HostRan value a out r z → HostRan value a out r' z' → (r ≡ r') × (z ≡ z')
  host_ran_unique p q =
      cases (eqb (length out % 16) 0)
      (λ e. let l = eqb-true (length out % 16) 0 e in ((p.fits l).0 ∙ sym (q.fits l).0, (p.fits l).1 ∙ sym (q.fits l).1))
      (λ e. let ne = eqb-false (length out % 16) 0 e in ((p.other ne).0 ∙ sym (q.other ne).0, (p.other ne).1 ∙ sym (q.other ne).1))

-- ---- the stored bytes

-- of a call that answers counts and leaves one buffer, x as it was
costs_unique : (P : Result Cost Refusal → List ℕ → Type 0) → ((c c' : Result Cost Refusal) (y y' : List ℕ) → P c y → P c' y' → (c ≡ c') × (y ≡ y'))
    → (x cost : List ℕ) (r r' : ℕ) (y y' z z' : List ℕ)
    → Into 2 cost r ((y ≡ x) × (z ≡ cost)) (Told (λ (c : Result Cost Refusal). P c y) (CostGiven cost r z))
    → Into 2 cost r' ((y' ≡ x) × (z' ≡ cost)) (Told (λ (c : Result Cost Refusal). P c y') (CostGiven cost r' z'))
    → (r ≡ r') × (y ≡ y') × (z ≡ z')
costs_unique P same x cost r r' y y' z z' p q =
    into_both p q
    (λ s t.
    let w = same s.answer t.answer y y' s.keeps t.keeps in
    let e = w.0 in (
      s.gives.0 ∙ ap number_given e ∙ sym t.gives.0,
      w.1,
      s.gives.1 ∙ ap (λ (c : Result Cost Refusal). numbered cost 0 ((cost_of c).read ∷ (cost_of c).written ∷ [])) e ∙ sym t.gives.1,
    ))
    (λ e s t. (e, s.0 ∙ sym t.0, s.1 ∙ sym t.1))

module _ (value image : List ℕ) (a : ℕ) (buffer cost : List ℕ) (r r' : ℕ) (y y' z z' : List ℕ) where
  pub host_wrote_unique : HostWrote value image a buffer cost r y z → HostWrote value image a buffer cost r' y' z' → (r ≡ r') × (y ≡ y') × (z ≡ z')
  host_wrote_unique =
      costs_unique (λ c after. Wrote (shelf_in value) image a buffer c after) (wrote_unique (shelf_in value) image a buffer) image cost r r' y y' z z'

  pub host_wrote_stripe_unique : HostWroteStripe value image a buffer cost r y z → HostWroteStripe value image a buffer cost r' y' z' → (r ≡ r') × (y ≡ y') × (z ≡ z')
  host_wrote_stripe_unique =
      costs_unique (λ c after. WroteStripe (shelf_in value) image a buffer c after) (wrote_stripe_unique (shelf_in value) image a buffer) image cost r r' y y' z z'

  pub host_read_out_unique : HostReadOut value image a buffer cost r y z → HostReadOut value image a buffer cost r' y' z' → (r ≡ r') × (y ≡ y') × (z ≡ z')
  host_read_out_unique =
      costs_unique (λ c after. ReadOut (shelf_in value) image a buffer c after) (read_out_unique (shelf_in value) image a buffer) buffer cost r r' y y' z z'

pub host_lost_unique : (value : List ℕ) (d r r' : ℕ) (z z' : List ℕ) → HostLost value d r z → HostLost value d r' z' → (r ≡ r') × (z ≡ z')
host_lost_unique value d r r' z z' p q = (p.0 ∙ sym q.0, p.1 ∙ sym q.1)

pub host_rebuilt_unique : (value image counts : List ℕ) (r r' : ℕ) (x x' y y' z z' : List ℕ)
    → HostRebuilt value image counts r x y z → HostRebuilt value image counts r' x' y' z' → (r ≡ r') × (x ≡ x') × (y ≡ y') × (z ≡ z')
host_rebuilt_unique value image counts r r' x x' y y' z z' p q =
    into_both p q
    (λ s t.
    let w = rebuilt_unique (shelf_in value) image s.answer t.answer y y' s.keeps t.keeps in
    let e = w.0 in (
      s.gives.0 ∙ ap number_given e ∙ sym t.gives.0,
      s.gives.1 ∙ ap (λ (a : Result Rebuilding Refusal). rebuilt_into a value) e ∙ sym t.gives.1,
      w.1,
      s.gives.2 ∙ ap (λ (a : Result Rebuilding Refusal). numbered counts 0 (counts_of a)) e ∙ sym t.gives.2,
    ))
    (λ e s t. (e, s.0 ∙ sym t.0, s.1 ∙ sym t.1, s.2 ∙ sym t.2))

pub host_scrubbed_unique : (value image out : List ℕ) (r r' : ℕ) (z z' : List ℕ) → HostScrubbed value image out r z → HostScrubbed value image out r' z' → (r ≡ r') × (z ≡ z')
host_scrubbed_unique value image out r r' z z' p q = into_both p q (λ x y. (x.0 ∙ sym y.0, x.1 ∙ sym y.1)) (λ e x y. (e, x ∙ sym y))

-- ---- show

pub place_start_unique : (h : Shelf) (n d o r r' : ℕ) → r ≡ place_start h n d o → r' ≡ place_start h n d o → r ≡ r'
place_start_unique h n d o r r' p q = p ∙ sym q

pub address-start_unique : (h : Shelf) (n a m r r' : ℕ) → r ≡ address_start h n a m → r' ≡ address_start h n a m → r ≡ r'
address-start_unique h n a m r r' p q = p ∙ sym q
