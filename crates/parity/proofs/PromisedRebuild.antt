-- An accepted rebuild marks no disk lost, counts the units that it takes from each disk, T·k·lambda of each other one, writes
-- the lost disk and keeps every other unit; each stripe that met the lost disk is right; and two images that agree on the
-- units taken give the same answer and the same bytes written. Assumes nothing.
use mathlib.Core.Path.{◌≡◌, sym, ap, ◌∙◌}
use mathlib.Core.Bool.{true, not, cond, ◌&&◌}
use mathlib.Core.List.{List}
use Prim.Native.Nat.{ℕ, ◌*◌, ◌<◌}
use native.Mathlib.Nat.{zero-add}
use lib.Dec.{ltb, eqb}
use lib.ListN.{length, get_or}
use Rattle.std.specs.Prelude.{Ok, Result}
use Rattle.design.specs.declared.Refusal.{Refusal}
use Rattle.design.specs.declared.Shelf.{Shelf}
use Rattle.design.specs.Refusals.{Verdict, verdict}
use Rattle.design.specs.Count.{count, list_from}
use Rattle.design.proofs.Counting.{length-list_from, get_or-list_from}
use Rattle.placement.specs.Layout.{layout_in, stripes}
use Rattle.design.specs.Loss.{no_loss, is_lost, with_loss}
use Rattle.design.specs.Refusals.{first_broken}
use Rattle.parity.specs.declared.Rebuilding.{Rebuilding}
use Rattle.parity.specs.Stripe.{depth, units, present}
use Rattle.parity.specs.Calls.{rebuild_rules, rebuilt_image, on_disk, read_from, rebuilding, Rebuilt, rebuilt_shelf, counts_of}
use Rattle.parity.proofs.By.{by_accepted, same_verdict, answer_accepted}
use Rattle.parity.proofs.Accepted.{LostCall, rebuild_accepted}
use Rattle.parity.proofs.Rebuilt.{Right, met_right}
use Rattle.parity.proofs.Counts.{read_from_is}
use Rattle.parity.proofs.Sets.{rebuild_set, rebuild_size}
use Rattle.parity.proofs.Defined.{Agree, rebuild_defined}
use Rattle.parity.proofs.Kept.{Kept, rebuild_kept}

module _ (h : Shelf) where
  module _ (image : List ℕ) (answer : Result Rebuilding Refusal) (after : List ℕ) (P : Rebuilt h image answer after) (e : verdict answer ≡ Ok tt) where
    v : first_broken (rebuild_rules h (length image)) ≡ Ok tt
    v = (answer_accepted _ _ P.answers e).0

    w : LostCall h image
    w = (rebuild_accepted h image).0 v

    pub rebuild_shelf_is : rebuilt_shelf h answer ≡ with_loss h no_loss
    rebuild_shelf_is = rw (answer_accepted _ _ P.answers e).1

    counts_are : counts_of answer ≡ list_from 0 64 (read_from h 0 (depth h))
    counts_are = rw (answer_accepted _ _ P.answers e).1

    pub rebuild_counts_length : length (counts_of answer) ≡ 64
    rebuild_counts_length = ap length counts_are ∙ length-list_from 0 64 (read_from h 0 (depth h))

    pub rebuild_leaves : after ≡ rebuilt_image h image
    rebuild_leaves = P.leaves ∙ by_accepted (rebuilt_image h image) image v

    pub rebuild_keeps : Kept h (λ n. not (present h n)) image after
    rebuild_keeps = rw rebuild_leaves (rebuild_kept h w.stored.shelf image w.stored.size)

    count_at : (x : ℕ) → x < 64 → get_or (counts_of answer) x 0 ≡ read_from h 0 (depth h) x
    count_at x l = ap (λ (l : List ℕ). get_or l x 0) counts_are ∙ get_or-list_from 0 64 (read_from h 0 (depth h)) x l ∙ ap (read_from h 0 (depth h)) (zero-add x)

    module _ (d : ℕ) (lost : is_lost h d ≡ true) where
      -- the units taken from disk x
      pub rebuild_counts : (x : ℕ) → x < 64 → get_or (counts_of answer) x 0 ≡ count (rebuild_set h d x) (units h)
      rebuild_counts x l =
          count_at x l ∙ sym (rebuild_size h w.stored.shelf d x lost)

      pub rebuild_counts_are : (x : ℕ) → x < 64 → get_or (counts_of answer) x 0 ≡ cond (ltb x h.v && not (eqb x d)) (h.T * h.k * h.lambda) 0
      rebuild_counts_are x l = count_at x l ∙ read_from_is h w.stored.shelf d lost x

      pub rebuild_right : (s : ℕ) → s < stripes (layout_in h) → on_disk h s d ≡ true → Right h after s
      rebuild_right s hs m = rw rebuild_leaves (met_right h w.stored.shelf image w.stored.size d s lost hs m)

  pub rebuild_same : (x y : List ℕ) (answer answer' : Result Rebuilding Refusal) (after after' : List ℕ) → Rebuilt h x answer after → Rebuilt h y answer' after'
      → length x ≡ length y → (d : ℕ) → is_lost h d ≡ true → ((e : ℕ) → Agree h (rebuild_set h d e) x y)
      → (answer ≡ answer') × (verdict answer ≡ Ok tt → Agree h (λ n. not (present h n)) after after')
  unfolding rebuild_rules
  rebuild_same x y answer answer' after after' P Q len d lost same =
      let v : first_broken (rebuild_rules h (length x)) ≡ first_broken (rebuild_rules h (length y)) = same_verdict h x y _ len in
      let one : answer ≡ answer' = P.answers ∙ ap (λ (v : Verdict). rebuilding v h) v ∙ sym Q.answers in
      (one, λ e. written e (sym (ap verdict one) ∙ e))
    where
      written : verdict answer ≡ Ok tt → verdict answer' ≡ Ok tt → Agree h (λ n. not (present h n)) after after'
      written e e' =
          let u = w x answer after P e in
          rw (rebuild_leaves x answer after P e, rebuild_leaves y answer' after' Q e')
          (rebuild_defined h u.stored.shelf x y d lost u.stored.size (sym len ∙ u.stored.size) same)
