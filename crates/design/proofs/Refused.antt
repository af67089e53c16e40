-- What opening gives with its verdict. Assumes nothing.
use mathlib.Core.Path.{◌≡◌, refl, sym, ◌∙◌, ap}
use mathlib.Core.Logic.{◌↔◌}
use mathlib.Core.Bool.{Bool, true, false}
use mathlib.Core.List.{List}
use Prim.Native.Nat.{ℕ, zero, suc, ◌≤◌, ◌<◌}
use native.Mathlib.Omega.{arith}
use Rattle.std.specs.Prelude.{Result, Ok, Err, IsErr, IsErrAnd}
use Rattle.std.proofs.lemmas.Result.{err_from_is_err_and}
use Rattle.design.specs.declared.Refusal.{Refusal}
use Rattle.design.specs.declared.Shelf.{Shelf}
use Rattle.design.specs.Refusals.{Verdict, number_given}
use Rattle.design.specs.Refusals.{number, first_broken, answered, verdict}
use Rattle.design.specs.Sheet.{sheet_rules, opened, shelf_or_empty, opened_shelf, shelf_of, empty_shelf}
use Rattle.design.specs.Shelf.{back_rules}
use Rattle.design.proofs.Lowest.{rising, kept_of, kept_low, LowestBroken, gives_exactly}

-- ---- an answer by its verdict

pub verdict_answered : {A : Type 0} (v : Verdict) (x : A) → verdict (answered v x) ≡ v
unfolding answered
verdict_answered (Ok u) x = refl
verdict_answered (Err r) x = refl

pub number_answered : {A : Type 0} (v : Verdict) (x : A) → number_given (answered v x) ≡ number_given v
unfolding answered
number_answered (Ok u) x = refl
number_answered (Err r) x = refl

-- the verdict of an accepted answer, and its shelf
pub verdict_ok : {A : Type 0} (x : A) → verdict (Ok x) ≡ Ok tt
verdict_ok x = refl

pub ok_same : {A : Type 0} {x y : A} → ◌≡◌ {A = Result A Refusal} (Ok x) (Ok y) → x ≡ y
ok_same e = cc

pub ok_shelf : (h : Shelf) → shelf_or_empty (Ok h) ≡ h
ok_shelf h = refl

-- what `?` hands on is the refusal that it met
pub handed_err : {A : Type 0} (r : Result A Refusal) {x : Refusal} → IsErr r × IsErrAnd r (λ (y : Refusal). y ≡ x) → r ≡ Err x
handed_err r handed = let p = err_from_is_err_and r handed.1 in p.1 ∙ ap Err p.2

-- ---- opening

-- the rules of a sheet are listed by their numbers, as those of writing back
pub sheet_rise : (s : List ℕ) → rising 0 (sheet_rules s) ≡ true
unfolding rising sheet_rules number
sheet_rise s = refl

pub back_rise : (h : Shelf) (buffer : List ℕ) → rising 0 (back_rules h buffer) ≡ true
unfolding rising back_rules number
back_rise h buffer = refl

pub opened-verdict : (s : List ℕ) → verdict (opened s) ≡ first_broken (sheet_rules s)
unfolding opened
opened-verdict s = verdict_answered (first_broken (sheet_rules s)) (shelf_of s)

pub opened-number : (s : List ℕ) → number_given (opened s) ≡ number_given (first_broken (sheet_rules s))
unfolding opened
opened-number s = number_answered (first_broken (sheet_rules s)) (shelf_of s)

-- the rule with number n of a sheet is kept
abbrev pub rule_at : List ℕ → ℕ → Bool
rule_at s n = kept_of (sheet_rules s) n

-- each number is given exactly when its rule is broken and no lower one is
pub number_exactly : (s : List ℕ) (n : ℕ) → 1 ≤ n
    → (number_given (opened s) ≡ n) ↔ ((rule_at s n ≡ false) × ((m : ℕ) → 1 ≤ m → m < n → rule_at s m ≡ true))
number_exactly s n h = rw (opened-number s) (λ e. ((given.0 e).0, λ m p l. (given.0 e).1 m l), λ r. given.1 (r.0, all r.1))
  where
    given : (number_given (first_broken (sheet_rules s)) ≡ n) ↔ LowestBroken (sheet_rules s) n
    given = gives_exactly (sheet_rules s) (sheet_rise s) n h

    all : ((m : ℕ) → 1 ≤ m → m < n → rule_at s m ≡ true) → (m : ℕ) → m < n → rule_at s m ≡ true
    all r zero l = kept_low (sheet_rules s) 0 (sheet_rise s) 0 (omega arith)
    all r (suc m) l = r (suc m) (omega arith) l

pub refused_empty : (s : List ℕ) (x : Refusal) → verdict (opened s) ≡ Err x → opened_shelf s ≡ empty_shelf
unfolding opened answered
refused_empty s x e = let v : first_broken (sheet_rules s) ≡ Err x = sym (opened-verdict s) ∙ e in rw v

pub accepted_shelf : (s : List ℕ) → verdict (opened s) ≡ Ok tt → opened_shelf s ≡ shelf_of s
unfolding opened answered
accepted_shelf s e = let v : first_broken (sheet_rules s) ≡ Ok tt = sym (opened-verdict s) ∙ e in rw v

-- two answers that the promise of opening allows are equal
pub opened_unique : (s : List ℕ) (r r' : Result Shelf Refusal) → r ≡ opened s → r' ≡ opened s → r ≡ r'
opened_unique s r r' p q = p ∙ sym q
