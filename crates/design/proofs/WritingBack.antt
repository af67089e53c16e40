-- What writing back leaves in the buffer, and that its promise leaves no choice. Assumes nothing.
use mathlib.Core.Path.{◌≡◌, refl, sym, ap, ◌∙◌}
use mathlib.Core.Logic.{◌↔◌}
use mathlib.Core.Bool.{true, false, true≢false}
use mathlib.Core.List.{List, ◌++◌}
use Prim.Native.Nat.{ℕ, ◌*◌, ◌≤◌}
use native.Mathlib.Omega.{arith}
use lib.ListN.{length, take, drop, length-append, length-drop}
use lib.Seq.{take_at, drop_at}
use borrow.Author.Tests.{leb-true, le-leb}
use Rattle.std.specs.Prelude.{Result, Ok, Err}
use Rattle.design.specs.declared.Shelf.{Shelf}
use Rattle.design.specs.declared.Refusal.{Refusal}
use Rattle.design.specs.Refusals.{Verdict}
use Rattle.design.specs.Refusals.{number, first_broken, answered}
use Rattle.design.specs.Sheet.{sheet_length, table_size, opened}
use Rattle.design.specs.Shelf.{is_shelf, sheet_in, back_rules, back_buffer, WroteBack}
use Rattle.design.proofs.Lowest.{kept_of, accepts_exactly}
use Rattle.design.proofs.Refused.{back_rise}
use Rattle.design.proofs.Written.{length-sheet}
use Rattle.design.proofs.Packing.{whole}
use Rattle.design.proofs.RoundTrip.{written_opens}

pub wrote_back_unique : (h : Shelf) (buffer : List ℕ) (r r' : Result ℕ Refusal) (after after' : List ℕ)
    → WroteBack h buffer r after → WroteBack h buffer r' after' → (r ≡ r') × (after ≡ after')
wrote_back_unique h buffer r r' after after' p q = (p.answers ∙ sym q.answers, p.leaves ∙ sym q.leaves)

-- accepted exactly for a shelf whose sheet has room in the buffer
pub back_accepts : (h : Shelf) (buffer : List ℕ)
    → (first_broken (back_rules h buffer) ≡ Ok tt) ↔ ((is_shelf h ≡ true) × (sheet_length (h.b * h.k) ≤ length buffer))
unfolding kept_of back_rules number first_broken
back_accepts h buffer = (
  λ e.
      let kept = (accepts_exactly (back_rules h buffer) (back_rise h buffer)).0 e in
      (kept 10, leb-true (sheet_length (h.b * h.k)) (length buffer) (kept 13)),
  λ k. rw (k.0, le-leb (sheet_length (h.b * h.k)) (length buffer) k.1),
)

-- the sheet stands in the first n bytes of the buffer, and the bytes after it are as they were
pub record Front (h : Shelf) (buffer : List ℕ) (n : ℕ) (after : List ℕ) : Type 0 where
  pub exact : n ≡ sheet_length (h.b * h.k)
  pub sheet : take n after ≡ sheet_in h
  pub kept : drop n after ≡ drop n buffer
  pub same_length : length after ≡ length buffer

module _ (h : Shelf) (buffer after : List ℕ) where
  pub back_refused : (x : Refusal) → WroteBack h buffer (Err x) after → after ≡ buffer
  unfolding answered back_buffer
  back_refused x p = go (first_broken (back_rules h buffer)) p.answers p.leaves
    where
      go : (y : Verdict) → Err x ≡ answered y (sheet_length (h.b * h.k)) → after ≡ back_buffer y h buffer → after ≡ buffer
      go (Ok u) a l = let z : true ≡ false = cc in absurd (true≢false z)
      go (Err y) a l = l

  module _ (n : ℕ) (p : WroteBack h buffer (Ok n) after) where
    back_accepted : first_broken (back_rules h buffer) ≡ Ok tt
    unfolding answered
    back_accepted = go (first_broken (back_rules h buffer)) p.answers
      where
        go : (y : Verdict) → Ok n ≡ answered y (sheet_length (h.b * h.k)) → y ≡ Ok tt
        go (Ok u) a = refl
        go (Err y) a = let z : true ≡ false = cc in absurd (true≢false z)

    pub back_keeps : Front h buffer n after
    unfolding answered back_buffer
    back_keeps =
        let rest = drop (sheet_length (h.b * h.k)) buffer in
        let fits = ((back_accepts h buffer).0 back_accepted).1 in
        let answer : Ok n ≡ Ok (sheet_length (h.b * h.k)) = rw back_accepted at p.answers in
        let leaves : after ≡ sheet_in h ++ rest = rw back_accepted at p.leaves in
        let e : n ≡ sheet_length (h.b * h.k) = cc in
        let long : length (sheet_in h) ≡ n = length-sheet h ∙ sym e in
        record {
          exact = e;
          sheet = rw leaves (take_at (sheet_in h) rest n long);
          kept = rw leaves (drop_at (sheet_in h) rest n long ∙ ap (λ (m : ℕ). drop m buffer) (sym e));
          same_length = rw leaves (simp (length-append, length-drop) (omega arith));
        }

    -- what was written back opens as the shelf, its lost disk apart
    pub back_opens : length h.table ≡ table_size → opened (take n after) ≡ Ok (whole h)
    back_opens full = ap opened back_keeps.sheet ∙ written_opens h full ((back_accepts h buffer).0 back_accepted).0
