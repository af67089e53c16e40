-- The known answers that document 01 marks P: one table of questions and answers.
use Rattle.std.specs.Prelude.{List, [], ◌∷◌, ℕ, Result}
use Rattle.std.specs.Prelude.{Ok, Err}
use Rattle.placement.specs.declared.Spot.{Spot}
use Rattle.design.specs.declared.Refusal.{Refusal}
use Rattle.design.specs.Refusals.{Verdict, verdict}
use Rattle.design.specs.Refusals.{number}
use Rattle.design.specs.Sheet.{opened, opened_shelf}
use Rattle.placement.specs.declared.LookUp.{LookUp}
use Rattle.placement.specs.Placed.{placed, looked_up}

-- ---- the sheets, by their bytes

unfoldable pub sheet_a : List ℕ
sheet_a = 0x10 ∷ 0x83 ∷ 0x00 ∷ 0x40 ∷ 0x00 ∷ 0x10 ∷ 0x00 ∷ 0x10 ∷ 0x80 ∷ 0x04 ∷ 0x30 ∷ 0x02 ∷ 0x0C ∷ 0x10 ∷ 0x83 ∷ []

-- sheet A with T 2
unfoldable pub sheet_a₂ : List ℕ
sheet_a₂ = 0x10 ∷ 0x83 ∷ 0x00 ∷ 0x40 ∷ 0x00 ∷ 0x20 ∷ 0x00 ∷ 0x10 ∷ 0x80 ∷ 0x04 ∷ 0x30 ∷ 0x02 ∷ 0x0C ∷ 0x10 ∷ 0x83 ∷ []

unfoldable pub sheet_b : List ℕ
sheet_b = 0x10 ∷ 0x42 ∷ 0x00 ∷ 0x10 ∷ 0x00 ∷ 0x10 ∷ 0x00 ∷ 0x10 ∷ []

-- v 4, k 2, tuples 0 1 and 2 3
unfoldable pub two_pairs : List ℕ
two_pairs = 0x10 ∷ 0x82 ∷ 0x00 ∷ 0x20 ∷ 0x00 ∷ 0x10 ∷ 0x00 ∷ 0x10 ∷ 0x83 ∷ []

-- v 3, k 2, tuple 0 1
unfoldable pub one_pair : List ℕ
one_pair = 0x10 ∷ 0x62 ∷ 0x00 ∷ 0x10 ∷ 0x00 ∷ 0x10 ∷ 0x00 ∷ 0x10 ∷ []

-- ---- questions and answers

pub data Question : Type 0 where
  address : List ℕ → ℕ → Question
  place : List ℕ → ℕ → ℕ → Question
  sheet : List ℕ → Question

pub data Answer : Type 0 where
  -- disk and offset, and those of the parity
  at : ℕ → ℕ → ℕ → ℕ → Answer
  -- stripe and address
  data' : ℕ → ℕ → Answer
  -- the stripe whose parity it is
  parity : ℕ → Answer
  -- the number of a refusal
  refused : ℕ → Answer
  accepted : Answer

abbrev pub of_placing : Result Spot Refusal → Answer
of_placing (Ok x) = at x.disk x.offset x.parity_disk x.parity_offset
of_placing (Err x) = refused (number x)

abbrev pub of_look_up : Result LookUp Refusal → Answer
of_look_up (Ok (LookUp.Data s a)) = data' s a
of_look_up (Ok (LookUp.Parity s)) = parity s
of_look_up (Err x) = refused (number x)

abbrev pub of_verdict : Verdict → Answer
of_verdict (Ok u) = accepted
of_verdict (Err x) = refused (number x)

-- by the promises: the sheet is opened by the definition of opening
unfoldable pub answer : Question → Answer
answer (address s a) = of_placing (placed (opened_shelf s) a)
answer (place s d o) = of_look_up (looked_up (opened_shelf s) d o)
answer (sheet s) = of_verdict (verdict (opened s))

-- ---- the table

pub record Case : Type 0 where
  pub question : Question
  pub known : Answer

abbrev pub case : Question → Answer → Case
case q a = record { question = q; known = a }

unfoldable pub table : List Case
table =
    case (address sheet_a 0) (at 0 0 2 0)
    ∷ case (address sheet_a 3) (at 1 1 3 0)
    ∷ case (address sheet_a 7) (at 2 2 3 2)
    ∷ case (address sheet_a 9) (at 2 3 1 3)
    ∷ case (address sheet_a 15) (at 3 5 2 5)
    ∷ case (address sheet_a 16) (at 1 6 0 6)
    ∷ case (address sheet_a 23) (at 3 8 1 8)
    ∷ case (address sheet_a 24) (refused 12)
    ∷ case (address sheet_a₂ 24) (at 0 9 2 9)
    ∷ case (place sheet_a 3 2) (parity 3)
    ∷ case (address sheet_b 1) (at 1 1 0 1)
    ∷ case (sheet two_pairs) (refused 9)
    ∷ case (sheet one_pair) (refused 8)
    ∷ []
