-- What an accepted lose or rebuild tells of the shelf value, and how many counts there are. Assumes nothing.
use mathlib.Core.Path.{◌≡◌, refl, sym, ap, ◌∙◌}
use mathlib.Core.Bool.{true}
use mathlib.Core.List.{List}
use Prim.Native.Nat.{ℕ}
use lib.ListN.{length, length-replicate}
use Rattle.std.specs.Prelude.{Ok, Err, Result}
use Rattle.design.specs.Count.{list_from}
use Rattle.design.specs.Loss.{with_loss, no_loss}
use Rattle.design.proofs.Refused.{ok_same}
use Rattle.parity.proofs.By.{answer_accepted, lost_verdict}
use Rattle.design.specs.declared.Refusal.{Refusal}
use Rattle.design.specs.declared.Shelf.{Shelf}
use Rattle.design.specs.Refusals.{verdict, first_broken}
use Rattle.design.specs.Shelf.{is_shelf}
use Rattle.design.proofs.Counting.{length-list_from}
use Rattle.parity.specs.declared.Rebuilding.{Rebuilding}
use Rattle.parity.specs.Stripe.{depth}
use Rattle.parity.specs.Calls.{lost, Rebuilt, read_from, rebuild_rules, counts_of}
use Rattle.parity.proofs.Accepted.{lose_accepted, rebuild_accepted}

pub losing-shelf : (h : Shelf) (d : ℕ) {g : Shelf} → lost h d ≡ Ok g → is_shelf h ≡ true
losing-shelf h d e = ((lose_accepted h d).0 (sym (lost_verdict h d) ∙ ap verdict e)).shelf

module _ (h : Shelf) (image : List ℕ) {answer : Result Rebuilding Refusal} {image' : List ℕ} (kept : Rebuilt h image answer image') {x : Rebuilding} (is : answer ≡ Ok x) where
  rebuild_passed : (first_broken (rebuild_rules h (length image)) ≡ Ok tt) × (answer ≡ Ok (record { shelf = with_loss h no_loss; counts = list_from 0 64 (read_from h 0 (depth h)) }))
  rebuild_passed = answer_accepted _ _ kept.answers (ap verdict is)

  pub rebuilding-shelf : is_shelf h ≡ true
  rebuilding-shelf = ((rebuild_accepted h image).0 rebuild_passed.0).stored.shelf

  pub rebuilt_counts : length x.counts ≡ 64
  rebuilt_counts =
      let e : ◌≡◌ {A = Result Rebuilding Refusal} (Ok x) (Ok (record { shelf = with_loss h no_loss; counts = list_from 0 64 (read_from h 0 (depth h)) })) = sym is ∙ rebuild_passed.1 in
      ap (λ (x : Rebuilding). length x.counts) (ok_same e) ∙ length-list_from 0 64 (read_from h 0 (depth h))

-- of a refused one too
pub counts_length : (h : Shelf) (image : List ℕ) (answer : Result Rebuilding Refusal) {image' : List ℕ} → Rebuilt h image answer image' → length (counts_of answer) ≡ 64
counts_length h image (Ok x) kept = rebuilt_counts h image kept refl
counts_length h image (Err r) kept = length-replicate {A = ℕ} 64 0
