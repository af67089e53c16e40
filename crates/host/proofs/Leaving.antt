-- Where 0 is given, the bytes that open, lose and rebuild leave hold the shelf that they promise. Assumes nothing.
use mathlib.Core.Path.{◌≡◌, refl, sym, ap, ◌∙◌}
use mathlib.Core.List.{List}
use Prim.Native.Nat.{ℕ, ◌*◌}
use native.Mathlib.Omega.{arith}
use lib.Dec.{eqb}
use lib.ListN.{length}
use borrow.Author.Tests.{eqb-true, eqb-false}
use Rattle.std.specs.Prelude.{Ok, Err, Result}
use Rattle.design.specs.declared.Refusal.{Refusal}
use Rattle.design.specs.declared.Shelf.{Shelf}
use Rattle.design.specs.Refusals.{verdict, number_given, first_broken}
use Rattle.design.specs.Loss.{no_loss, disk_loss, with_loss}
use Rattle.design.specs.Sheet.{opened, shelf_of, opened_shelf, shelf_or_empty}
use Rattle.design.proofs.Reading.{length-table}
use Rattle.design.proofs.Lowest.{some_number}
use Rattle.design.proofs.Refused.{accepted_shelf}
use Rattle.design.proofs.RoundTrip.{opened_is_shelf}
use Rattle.parity.specs.declared.Rebuilding.{Rebuilding}
use Rattle.parity.specs.Calls.{lost, lose_rules}
use Rattle.parity.proofs.Accepted.{lose_accepted, rebuild_accepted}
use Rattle.parity.proofs.By.{answer_accepted, lost_is}
use Rattle.parity.proofs.Cases.{cases}
use Rattle.parity.proofs.Survived.{lose_shelf, rebuild_shelf}
use Rattle.host.specs.Value.{shelf_in, with_shelf, shelf_into}
use Rattle.host.specs.Answers.{Into}
use Rattle.host.specs.Sheets.{HostOpened}
use Rattle.host.specs.Stored.{HostLost, HostRebuilt, rebuilt_into}
use Rattle.host.proofs.Holding.{value-length, held-table}
use Rattle.host.proofs.Returned.{put_back}

-- ---- 0 is given by no refusal

pub zero_accepted : {A : Type 0} (answer : Result A Refusal) → number_given answer ≡ 0 → (x : A) × (answer ≡ Ok x)
zero_accepted (Ok x) e = (x, refl)
zero_accepted (Err x) e = absurd (omega (arith, some_number x))

-- an answer of 0 is one that fits
zero_fits : {n r : ℕ} {buffer : List ℕ} {unaltered answered : Type 0} → Into n buffer r unaltered answered → r ≡ 0 → (length buffer ≡ 4 * n) × answered
zero_fits {n} {r} {buffer} into e =
    cases (eqb (length buffer) (4 * n))
    (λ q. let l = eqb-true (length buffer) (4 * n) q in (l, into.fits l))
    (λ q. absurd (omega (arith, (into.other (eqb-false (length buffer) (4 * n) q)).0)))

-- ---- open

shelf_into_ok : (h : Shelf) (bytes : List ℕ) → shelf_into (Ok h) bytes ≡ with_shelf bytes h
unfolding shelf_into
shelf_into_ok h bytes = refl

opened-table : (s : List ℕ) → verdict (opened s) ≡ Ok tt → length (opened_shelf s).table ≡ 2048
unfolding shelf_of
opened-table s e = ap (λ (h : Shelf). length h.table) (accepted_shelf s e) ∙ length-table s _

pub open_leaves : (sheet out : List ℕ) (r : ℕ) (out' : List ℕ) → HostOpened sheet out r out' → r ≡ 0 → shelf_in out' ≡ opened_shelf sheet
open_leaves sheet out r out' p e =
    let w = zero_fits p e in
    let z = zero_accepted (opened sheet) (sym w.1.0 ∙ e) in
    let a = ap verdict z.1 in
    let is : opened_shelf sheet ≡ z.0 = ap shelf_or_empty z.1 in
    ap shelf_in (w.1.1 ∙ ap (λ (o : Result Shelf Refusal). shelf_into o out) z.1 ∙ shelf_into_ok z.0 out ∙ ap (with_shelf out) (sym is))
    ∙ put_back (opened_shelf sheet) (opened_is_shelf sheet a) (opened-table sheet a) out w.0

-- ---- lose and rebuild

pub lose_leaves : (value : List ℕ) (d r : ℕ) (value' : List ℕ) → HostLost value d r value' → r ≡ 0 → shelf_in value' ≡ with_loss (shelf_in value) (disk_loss d)
lose_leaves value d r value' p e =
    let h = shelf_in value in
    let z = zero_accepted (lost h d) (sym p.0 ∙ e) in
    let passed = answer_accepted (first_broken (lose_rules h d)) (with_loss h (disk_loss d)) (lost_is h d) (ap verdict z.1) in
    let w = (lose_accepted h d).0 passed.0 in
    ap shelf_in (p.1 ∙ ap (λ (o : Result Shelf Refusal). shelf_into o value) passed.1 ∙ shelf_into_ok (with_loss h (disk_loss d)) value)
    ∙ put_back (with_loss h (disk_loss d)) (lose_shelf h d w.shelf w.disk) (held-table value) value (value-length value w.shelf)

pub rebuild_leaves : (value image counts : List ℕ) (r : ℕ) (value' image' counts' : List ℕ)
    → HostRebuilt value image counts r value' image' counts' → r ≡ 0 → shelf_in value' ≡ with_loss (shelf_in value) no_loss
unfolding rebuilt_into
rebuild_leaves value image counts r value' image' counts' p e =
    let h = shelf_in value in
    let t = (zero_fits p e).1 in
    let z = zero_accepted t.answer (sym t.gives.0 ∙ e) in
    let passed = answer_accepted _ _ t.keeps.answers (ap verdict z.1) in
    let ok = ((rebuild_accepted h image).0 passed.0).stored.shelf in
    ap shelf_in (t.gives.1 ∙ ap (λ (o : Result Rebuilding Refusal). rebuilt_into o value) passed.1)
    ∙ put_back (with_loss h no_loss) (rebuild_shelf h ok) (held-table value) value (value-length value ok)
