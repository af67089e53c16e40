-- Of the broken rules of a call the lowest number is given. Assumes nothing.
use mathlib.Core.Path.{◌≡◌, refl, sym, ap, ◌∙◌}
use mathlib.Core.Logic.{◌↔◌, ◌⊎◌, inl, inr}
use mathlib.Core.Bool.{Bool, true, false, cond, ◌&&◌, true≢false}
use mathlib.Core.List.{List, [], ◌∷◌}
use Prim.Native.Nat.{ℕ, zero, suc, ◌≤◌, ◌<◌}
use native.Mathlib.Omega.{arith}
use lib.Dec.{ltb, eqb}
use lib.ListN.{get_or}
use borrow.Author.Tests.{ltb-true, ltb-false, eq-eqb, ne_eqb}
use Rattle.std.specs.Prelude.{Ok, Err}
use Rattle.design.specs.declared.Refusal.{Refusal}
use Rattle.design.specs.declared.Refusal.TheVariants.{ShortSheet, OtherEdition, OutsideLimits, OtherLength, DiskOutside, DiskTwice, FillingSet, DisksUneven, PairsUneven, NotAShelf, OtherImage, OutOfRange, OtherBuffer, SomeLost, NoneLost}
use Rattle.design.specs.Refusals.{Verdict}
use Rattle.design.specs.Refusals.{number, number_given, Rule, first_broken}
use Rattle.design.proofs.Counting.{decided, both}

-- ---- numbers

-- the refusals by their numbers, from 1 on
refusals : List Refusal
refusals =
    ShortSheet ∷ OtherEdition ∷ OutsideLimits ∷ OtherLength ∷ DiskOutside ∷ DiskTwice ∷ FillingSet ∷ DisksUneven ∷ PairsUneven
    ∷ NotAShelf ∷ OtherImage ∷ OutOfRange ∷ OtherBuffer ∷ SomeLost ∷ NoneLost ∷ []

numbered : (x : Refusal) → get_or (ShortSheet ∷ refusals) (number x) ShortSheet ≡ x
unfolding number refusals
numbered ShortSheet = refl
numbered OtherEdition = refl
numbered OutsideLimits = refl
numbered OtherLength = refl
numbered DiskOutside = refl
numbered DiskTwice = refl
numbered FillingSet = refl
numbered DisksUneven = refl
numbered PairsUneven = refl
numbered NotAShelf = refl
numbered OtherImage = refl
numbered OutOfRange = refl
numbered OtherBuffer = refl
numbered SomeLost = refl
numbered NoneLost = refl

-- two refusals of one number are one
pub number_inj : (x y : Refusal) → number x ≡ number y → x ≡ y
number_inj x y e = sym (numbered x) ∙ ap (λ (n : ℕ). get_or (ShortSheet ∷ refusals) n ShortSheet) e ∙ numbered y

-- no refusal has the number 0 of an accepted call
pub some_number : (x : Refusal) → 1 ≤ number x
unfolding number
some_number x = go (number x) refl
  where
    go : (n : ℕ) → number x ≡ n → 1 ≤ number x
    go zero e = let first : x ≡ ShortSheet = sym (numbered x) ∙ ap (λ (n : ℕ). get_or (ShortSheet ∷ refusals) n ShortSheet) e in omega (arith, ap number first)
    go (suc n) e = omega arith

never_both : (v : Verdict) (x : Refusal) → v ≡ Ok tt → v ≡ Err x → ⊥
never_both v x a r = let z : true ≡ false = cc in true≢false z

-- ---- rules listed by rising number

-- the numbers rise, the first above n
unfoldable pub rising : ℕ → List Rule → Bool
rising n [] = true
rising n (x ∷ rules) = ltb n (number x.refusal) && rising (number x.refusal) rules

-- the rule with number n is kept; a number that no rule has is not broken
unfoldable pub kept_of : List Rule → ℕ → Bool
kept_of [] n = true
kept_of (x ∷ rules) n = cond (eqb (number x.refusal) n) x.kept (kept_of rules n)

kept_own : (x : Rule) (rules : List Rule) → kept_of (x ∷ rules) (number x.refusal) ≡ x.kept
unfolding kept_of
kept_own x rules = rw (eq-eqb (number x.refusal) (number x.refusal) refl)

kept_other : (x : Rule) (rules : List Rule) (n : ℕ) → (number x.refusal ≡ n → ⊥) → kept_of (x ∷ rules) n ≡ kept_of rules n
unfolding kept_of
kept_other x rules n h = rw (ne_eqb (number x.refusal) n h)

-- no rule has a number up to n
pub kept_low : (rules : List Rule) (n : ℕ) → rising n rules ≡ true → (m : ℕ) → m ≤ n → kept_of rules m ≡ true
unfolding rising kept_of
kept_low [] n e m h = refl
kept_low (x ∷ rules) n e m h =
    let p = both (ltb n (number x.refusal)) (rising (number x.refusal) rules) e in
    let l : n < number x.refusal = ltb-true n (number x.refusal) p.0 in
    kept_other x rules m (omega arith) ∙ kept_low rules (number x.refusal) p.1 m (omega arith)

-- ---- the first broken rule has the lowest number

-- the rule of n is broken and none of a lower number
abbrev pub LowestBroken : List Rule → ℕ → Type 0
LowestBroken rules n = (kept_of rules n ≡ false) × ((m : ℕ) → m < n → kept_of rules m ≡ true)

-- a broken rule has no number below which all are kept
least : (rules : List Rule) (m n : ℕ) → ((i : ℕ) → i < m → kept_of rules i ≡ true) → kept_of rules n ≡ false → m ≤ n
least rules m n kept b = go (decided (ltb n m))
  where
    go : (ltb n m ≡ true) ⊎ (ltb n m ≡ false) → m ≤ n
    go (inl l) = absurd (true≢false (sym (kept n (ltb-true n m l)) ∙ b))
    go (inr l) = ltb-false n m l

one_lowest : (rules : List Rule) (m n : ℕ) → LowestBroken rules m → LowestBroken rules n → m ≡ n
one_lowest rules m n p q = omega (arith, least rules m n p.1 q.0, least rules n m q.1 p.0)

record Keeps (rules : List Rule) : Type 0 where
  verdict : first_broken rules ≡ Ok tt
  kept : (n : ℕ) → kept_of rules n ≡ true

record Breaks (rules : List Rule) (x : Refusal) : Type 0 where
  verdict : first_broken rules ≡ Err x
  lowest : LowestBroken rules (number x)

first : (n : ℕ) (rules : List Rule) → rising n rules ≡ true → Keeps rules ⊎ ((x : Refusal) × Breaks rules x)
unfolding first_broken kept_of rising
first n [] e = inl (record { verdict = refl; kept = λ m. refl })
first n (x ∷ rules) e = go (decided x.kept) (first (number x.refusal) rules later.1)
  where
    later : (ltb n (number x.refusal) ≡ true) × (rising (number x.refusal) rules ≡ true)
    later = both (ltb n (number x.refusal)) (rising (number x.refusal) rules) e

    low : (m : ℕ) → m ≤ number x.refusal → kept_of rules m ≡ true
    low = kept_low rules (number x.refusal) later.1

    more : x.kept ≡ true → (m : ℕ) → kept_of rules m ≡ true → kept_of (x ∷ rules) m ≡ true
    more k m t = own (decided (eqb (number x.refusal) m))
      where
        own : (eqb (number x.refusal) m ≡ true) ⊎ (eqb (number x.refusal) m ≡ false) → kept_of (x ∷ rules) m ≡ true
        own (inl q) = rw (q, k)
        own (inr q) = rw (q, t)

    broken : (m : ℕ) → kept_of rules m ≡ false → kept_of (x ∷ rules) m ≡ false
    broken m b = kept_other x rules m (λ q. true≢false (sym (low m (omega arith)) ∙ b)) ∙ b

    go : (x.kept ≡ true) ⊎ (x.kept ≡ false) → Keeps rules ⊎ ((y : Refusal) × Breaks rules y) → Keeps (x ∷ rules) ⊎ ((y : Refusal) × Breaks (x ∷ rules) y)
    go (inl k) (inl r) = inl (record { verdict = rw k r.verdict; kept = λ m. more k m (r.kept m) })
    go (inl k) (inr (y, r)) =
        inr (y, record { verdict = rw k r.verdict; lowest = (broken (number y) r.lowest.0, λ m l. more k m (r.lowest.1 m l)) })
    go (inr k) r =
        let own : kept_of (x ∷ rules) (number x.refusal) ≡ false = kept_own x rules ∙ k in
        inr (x.refusal, record { verdict = rw k; lowest = (own, λ m l. kept_other x rules m (omega arith) ∙ low m (omega arith)) })

module _ (rules : List Rule) (rise : rising 0 rules ≡ true) where
  -- accepted exactly when every rule is kept
  pub accepts_exactly : (first_broken rules ≡ Ok tt) ↔ ((n : ℕ) → kept_of rules n ≡ true)
  accepts_exactly = go (first 0 rules rise)
    where
      go : Keeps rules ⊎ ((x : Refusal) × Breaks rules x) → (first_broken rules ≡ Ok tt) ↔ ((n : ℕ) → kept_of rules n ≡ true)
      go (inl r) = (λ a. r.kept, λ k. r.verdict)
      go (inr (x, r)) =
          (λ a. absurd (never_both (first_broken rules) x a r.verdict), λ k. absurd (true≢false (sym (k (number x)) ∙ r.lowest.0)))

  -- refused exactly by the broken rule of the lowest number
  pub refuses_exactly : (x : Refusal) → (first_broken rules ≡ Err x) ↔ LowestBroken rules (number x)
  refuses_exactly x = go (first 0 rules rise)
    where
      go : Keeps rules ⊎ ((y : Refusal) × Breaks rules y) → (first_broken rules ≡ Err x) ↔ LowestBroken rules (number x)
      go (inl r) =
          (λ a. absurd (never_both (first_broken rules) x r.verdict a), λ l. absurd (true≢false (sym (r.kept (number x)) ∙ l.0)))
      go (inr (y, r)) = (
        λ a. let e : y ≡ x = cc (a, r.verdict) in rw e at r.lowest,
        λ l. r.verdict ∙ ap Err (number_inj y x (one_lowest rules (number y) (number x) r.lowest l)),
      )

  -- the same of the number that a caller gets
  pub gives_exactly : (n : ℕ) → 1 ≤ n → (number_given (first_broken rules) ≡ n) ↔ LowestBroken rules n
  gives_exactly n h = go (first 0 rules rise)
    where
      go : Keeps rules ⊎ ((x : Refusal) × Breaks rules x) → (number_given (first_broken rules) ≡ n) ↔ LowestBroken rules n
      go (inl r) = (λ a. absurd (omega (arith, ap number_given r.verdict)), λ l. absurd (true≢false (sym (r.kept n) ∙ l.0)))
      go (inr (x, r)) = (
        λ a. let e : number x ≡ n = sym (ap number_given r.verdict) ∙ a in rw e at r.lowest,
        λ l. ap number_given r.verdict ∙ one_lowest rules (number x) n r.lowest l,
      )

  -- where a rule is broken, a number is given, and none of a broken rule is lower
  pub gives_lowest : (n : ℕ) → kept_of rules n ≡ false → (1 ≤ number_given (first_broken rules)) × (number_given (first_broken rules) ≤ n)
  gives_lowest n b = go (first 0 rules rise)
    where
      go : Keeps rules ⊎ ((x : Refusal) × Breaks rules x) → (1 ≤ number_given (first_broken rules)) × (number_given (first_broken rules) ≤ n)
      go (inl r) = absurd (true≢false (sym (r.kept n) ∙ b))
      go (inr (x, r)) =
          rw r.verdict
          (least rules 1 (number x) (λ m l. kept_low rules 0 rise m (omega arith)) r.lowest.0, least rules (number x) n r.lowest.1 b)
