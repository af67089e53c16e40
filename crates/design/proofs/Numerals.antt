-- The numbers of document 01 as numerals: of each refusal, of each call's rules, of the limits and of the empty shelf. What is
-- said elsewhere by names is said here by the numbers that the document prints. Assumes nothing.
use mathlib.Core.Path.{◌≡◌, refl, ◌∙◌}
use mathlib.Core.Bool.{Bool, true, false, cond, not}
use mathlib.Core.List.{List, [], ◌∷◌, map}
use Prim.Native.Nat.{ℕ, ◌*◌, ◌<◌}
use lib.Dec.{leb, eqb}
use lib.ListN.{length, get_or, length-replicate, get_or-replicate}
use Rattle.std.specs.Prelude.{Err}
use Rattle.design.specs.declared.Refusal.TheVariants.{ShortSheet, OtherEdition, OutsideLimits, OtherLength, DiskOutside, DiskTwice, FillingSet, DisksUneven, PairsUneven, NotAShelf, OtherImage, OutOfRange, OtherBuffer, SomeLost, NoneLost}
use Rattle.design.specs.declared.Shelf.{Shelf}
use Rattle.design.specs.Refusals.{Rule, number, first_broken, number_given}
use Rattle.design.specs.Tuples.{before, shared, disks_below, none_twice, disks_even, pairs_even}
use Rattle.design.specs.Sheet.{edition_of, v_of, k_of, b_of, t_of, u_of, design_of, sheet_length, within_limits, filling_zero, sheet_rules, table_size, opened, empty_shelf}
use Rattle.design.specs.Loss.{no_loss}
use Rattle.design.specs.Shelf.{is_shelf, back_rules}
use Rattle.design.proofs.Refused.{opened-number}

-- the refusals in the order of the document's table have the numbers 1 to 15
pub numbers_are : map number (ShortSheet ∷ OtherEdition ∷ OutsideLimits ∷ OtherLength ∷ DiskOutside ∷ DiskTwice ∷ FillingSet ∷ DisksUneven ∷ PairsUneven ∷ NotAShelf ∷ OtherImage ∷ OutOfRange ∷ OtherBuffer ∷ SomeLost ∷ NoneLost ∷ [])
    ≡ 1 ∷ 2 ∷ 3 ∷ 4 ∷ 5 ∷ 6 ∷ 7 ∷ 8 ∷ 9 ∷ 10 ∷ 11 ∷ 12 ∷ 13 ∷ 14 ∷ 15 ∷ []
unfolding number
numbers_are = refl

-- ---- which number a call gives

-- a number of the document's table, and whether its condition holds
pub record Case : Type 0 where
  pub number : ℕ
  pub holds : Bool

abbrev pub case : ℕ → Bool → Case
case n holds = record { number = n; holds = holds }

-- the number of the first case that holds, 0 where none does
unfoldable pub first_of : List Case → ℕ
first_of [] = 0
first_of (x ∷ cases) = cond x.holds x.number (first_of cases)

-- a rule as a case: its number is given where it is broken
abbrev pub case_of : Rule → Case
case_of x = case (number x.refusal) (not x.kept)

pub rules_give : (rules : List Rule) → number_given (first_broken rules) ≡ first_of (map case_of rules)
unfolding first_broken first_of
rules_give [] = refl
rules_give (x ∷ rules) = go x.kept (rules_give rules)
  where
    go : (kept : Bool) → number_given (first_broken rules) ≡ first_of (map case_of rules)
        → number_given (cond kept (first_broken rules) (Err x.refusal)) ≡ cond (not kept) (number x.refusal) (first_of (map case_of rules))
    go true e = e
    go false e = refl

-- opening
pub open_gives : (s : List ℕ) → number_given (opened s)
    ≡ first_of (case 1 (not (leb 6 (length s)))
    ∷ case 2 (not (eqb (edition_of s) 1))
    ∷ case 3 (not (within_limits (v_of s) (k_of s) (b_of s) (t_of s) (u_of s)))
    ∷ case 4 (not (eqb (length s) (sheet_length (b_of s * k_of s))))
    ∷ case 5 (not (disks_below (design_of s)))
    ∷ case 6 (not (none_twice (design_of s)))
    ∷ case 7 (not (filling_zero s (b_of s * k_of s)))
    ∷ case 8 (not (disks_even (design_of s) (before (design_of s) (b_of s) 0)))
    ∷ case 9 (not (pairs_even (design_of s) (shared (design_of s) (b_of s) 1 0)))
    ∷ [])
unfolding sheet_rules number
open_gives s = opened-number s ∙ rules_give (sheet_rules s)

-- writing back
pub write_back_gives : (h : Shelf) (buffer : List ℕ) → number_given (first_broken (back_rules h buffer))
    ≡ first_of (case 10 (not (is_shelf h)) ∷ case 13 (not (leb (sheet_length (h.b * h.k)) (length buffer))) ∷ [])
unfolding back_rules number
write_back_gives h buffer = rules_give (back_rules h buffer)

-- ---- the limits

-- each limit is the last value that passes rule 3: v, k, b·k, T and u
pub largest_pass : (within_limits 64 2 1 1 0 ≡ true) × (within_limits 64 16 1 1 0 ≡ true) × (within_limits 2 2 1024 1 0 ≡ true) × (within_limits 2 2 1 65535 0 ≡ true) × (within_limits 2 2 1 1 12 ≡ true)
unfolding within_limits
largest_pass = (refl, refl, refl, refl, refl)

pub larger_fail : (within_limits 65 2 1 1 0 ≡ false) × (within_limits 64 17 1 1 0 ≡ false) × (within_limits 3 3 683 1 0 ≡ false) × (within_limits 2 2 1 65536 0 ≡ false) × (within_limits 2 2 1 1 13 ≡ false)
unfolding within_limits
larger_fail = (refl, refl, refl, refl, refl)

pub smaller_fail : (within_limits 1 1 1 1 0 ≡ false) × (within_limits 2 1 1 1 0 ≡ false) × (within_limits 2 2 0 1 0 ≡ false) × (within_limits 2 2 1 0 0 ≡ false)
unfolding within_limits
smaller_fail = (refl, refl, refl, refl)

-- ---- the empty shelf

-- every number and each of the 2,048 entries is zero, none lost; the default 1 would show an entry that is not there
pub record Empty (h : Shelf) : Type 0 where
  pub v : h.v ≡ 0
  pub k : h.k ≡ 0
  pub b : h.b ≡ 0
  pub T : h.T ≡ 0
  pub u : h.u ≡ 0
  pub r : h.r ≡ 0
  pub lambda : h.lambda ≡ 0
  pub entries : (i : ℕ) → i < 2048 → get_or h.table i 1 ≡ 0
  pub length : length h.table ≡ 2048
  pub loss : h.loss ≡ no_loss

pub empty_is_zero : Empty empty_shelf
unfolding empty_shelf
empty_is_zero =
    record {
      v = refl;
      k = refl;
      b = refl;
      T = refl;
      u = refl;
      r = refl;
      lambda = refl;
      entries = λ i l. get_or-replicate table_size i 0 1 l;
      length = length-replicate {A = ℕ} table_size 0;
      loss = refl;
    }
