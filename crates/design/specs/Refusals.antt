-- Document 01, "Numbers a caller can get": the number of each refusal, which of several rules is given, and what a call answers.
use Rattle.std.specs.Prelude.{Bool, cond, List, [], ◌∷◌, ℕ, ⊤, Result, Ok, Err}
use Rattle.design.specs.declared.Refusal.{Refusal}
use Rattle.design.specs.declared.Refusal.TheVariants.{ShortSheet, OtherEdition, OutsideLimits, OtherLength, DiskOutside, DiskTwice, FillingSet, DisksUneven, PairsUneven, NotAShelf, OtherImage, OutOfRange, OtherBuffer, SomeLost, NoneLost}

unfoldable pub number : Refusal → ℕ
number ShortSheet = 1
number OtherEdition = 2
number OutsideLimits = 3
number OtherLength = 4
number DiskOutside = 5
number DiskTwice = 6
number FillingSet = 7
number DisksUneven = 8
number PairsUneven = 9
number NotAShelf = 10
number OtherImage = 11
number OutOfRange = 12
number OtherBuffer = 13
number SomeLost = 14
number NoneLost = 15

-- a rule that concerns a call: what breaking it gives, and whether it is kept
pub record Rule : Type 0 where
  pub refusal : Refusal
  pub kept : Bool

-- accepted, or refused for one reason
abbrev pub Verdict : Type 0
Verdict = Result ⊤ Refusal

-- the first rule that is broken; every call lists its rules by rising number, so this is "the lowest number that applies"
unfoldable pub first_broken : List Rule → Verdict
first_broken [] = Ok tt
first_broken (x ∷ rules) = cond x.kept (first_broken rules) (Err x.refusal)

-- ---- what a call answers

-- an accepted call gives this, a refused one its refusal
unfoldable pub answered : {A : Type 0} → Verdict → A → Result A Refusal
answered (Ok u) x = Ok x
answered (Err r) x = Err r

-- whether an answer is of an accepted call, or why it is refused
abbrev pub verdict : {A : Type 0} → Result A Refusal → Verdict
verdict (Ok x) = Ok tt
verdict (Err r) = Err r

-- 0, or the refusal's number
abbrev pub number_given : {A : Type 0} → Result A Refusal → ℕ
number_given (Ok x) = 0
number_given (Err r) = number r
