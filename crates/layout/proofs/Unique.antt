-- Two answers that one promise allows are equal, and so are two buffers that a call may leave; each call's rules rise by number.
-- Assumes nothing.
use mathlib.Core.Path.{◌≡◌, refl, sym, ◌∙◌}
use mathlib.Core.Bool.{true}
use mathlib.Core.List.{List}
use Prim.Native.Nat.{ℕ}
use native.Mathlib.Omega.{arith}
use lib.ListN.{length, take, drop}
use lib.Seq.{take-append_seam}
use Rattle.std.specs.Prelude.{Ok, Err, Result}
use Rattle.design.specs.declared.Refusal.{Refusal}
use Rattle.design.specs.declared.Shelf.{Shelf}
use Rattle.design.specs.Refusals.{Verdict, answered}
use Rattle.design.specs.Refusals.{Rule, number, first_broken}
use Rattle.design.proofs.Lowest.{rising}
use Rattle.layout.specs.declared.Start.{Start}
use Rattle.layout.specs.Calls.{started, buffer_by, Written, refused_rules, first_rules, lines_rules}

pub started_unique : (s : List ℕ) (r r' : Result Start ℕ) → r ≡ started s → r' ≡ started s → r ≡ r'
started_unique s r r' p q = p ∙ sym q

pub written_unique : (rules : List Rule) (text buffer : List ℕ) (r r' : Result ℕ Refusal) (after after' : List ℕ)
    → Written rules text buffer r after → Written rules text buffer r' after' → (r ≡ r') × (after ≡ after')
written_unique rules text buffer r r' after after' p q = (p.answers ∙ sym q.answers, p.leaves ∙ sym q.leaves)

-- where a length is given, it is the text's, and the text is at the start of the buffer
pub written_there : (rules : List Rule) (text buffer after : List ℕ) (n : ℕ) → Written rules text buffer (Ok n) after
    → (n ≡ length text) × (take n after ≡ text)
unfolding answered buffer_by
written_there rules text buffer after n p = go (first_broken rules) p.answers p.leaves
  where
    go : (v : Verdict) → Ok n ≡ answered v (length text) → after ≡ buffer_by v text buffer → (n ≡ length text) × (take n after ≡ text)
    go (Ok u) a l = let e : n ≡ length text = cc a in (e, rw (e, l) (take-append_seam text (drop (length text) buffer)))
    go (Err x) a l = absurd (let z : ◌≡◌ {A = ℕ} 0 1 = cc a in omega arith)

-- ---- the rules rise

pub refused_rise : (buffer : List ℕ) → rising 0 (refused_rules buffer) ≡ true
unfolding rising refused_rules number
refused_rise buffer = refl

pub first_rise : (h : Shelf) (buffer : List ℕ) → rising 0 (first_rules h buffer) ≡ true
unfolding rising first_rules number
first_rise h buffer = refl

pub lines_rise : (h : Shelf) (first n : ℕ) (buffer : List ℕ) → rising 0 (lines_rules h first n buffer) ≡ true
unfolding rising lines_rules number
lines_rise h first n buffer = refl
