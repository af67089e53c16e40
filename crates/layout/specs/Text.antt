-- The text of a layout (document 01, "The layout program"), as a list of bytes: numbers in decimal, words set apart by single
-- spaces, and a line end after every line.
use Rattle.std.specs.Prelude.{true, false, List, [], ◌∷◌, ◌++◌, ℕ, zero, suc, ◌+◌, ◌-◌, ◌/◌, ◌%◌, ◌^◌, ltb, Result}
use Rattle.std.specs.Prelude.{Ok, Err}
use Rattle.design.specs.declared.Refusal.{Refusal}
use Rattle.design.specs.declared.Shelf.{Shelf}
use Rattle.design.specs.Refusals.{number}
use Rattle.design.specs.Sheet.{opened}
use Rattle.placement.specs.declared.unchecked.Place.{Place}
use Rattle.placement.specs.Slots.{position_of}
use Rattle.placement.specs.Layout.{Layout, layout_in, stripes, parity_of, place_of}

-- ---- bytes

abbrev pub line_end : ℕ
line_end = 10

abbrev pub space : ℕ
space = 32

abbrev pub colon : ℕ
colon = 58

-- a digit's byte
abbrev pub digit : ℕ → ℕ
digit d = 48 + d

-- ---- words

-- the last digits of n, no more of them than `most`
unfoldable pub last_digits : ℕ → ℕ → List ℕ
last_digits zero n = []
last_digits (suc most) n = elim (ltb n 10) [ true ↦ digit n ∷ [] | false ↦ last_digits most (n / 10) ++ digit (n % 10) ∷ [] ]

-- all of them: there are at most n + 1
unfoldable pub decimal : ℕ → List ℕ
decimal n = last_digits (suc n) n

-- disk:offset
unfoldable pub place_text : Place → List ℕ
place_text x = decimal x.disk ++ colon ∷ decimal x.offset

-- a word that is not a line's first
abbrev pub spaced : List ℕ → List ℕ
spaced word = space ∷ word

-- f 0, f 1 and so on, n in all, one after another
unfoldable pub joined : ℕ → (ℕ → List ℕ) → List ℕ
joined zero f = []
joined (suc n) f = joined n f ++ f n

-- ---- lines

-- v k b r lambda T U
unfoldable pub first_line : Shelf → List ℕ
first_line h =
    decimal h.v
    ++ spaced (decimal h.k)
    ++ spaced (decimal h.b)
    ++ spaced (decimal h.r)
    ++ spaced (decimal h.lambda)
    ++ spaced (decimal h.T)
    ++ spaced (decimal (2 ^ h.u))
    ++ line_end ∷ []

-- the place of position p of stripe s, as a word
unfoldable pub place_word : Layout → ℕ → ℕ → List ℕ
place_word L s p = spaced (place_text (place_of L s p))

-- a stripe's number, the parity place, the data places in address order
unfoldable pub stripe_line : Layout → ℕ → List ℕ
stripe_line L s = decimal s ++ place_word L s (parity_of L s) ++ joined (L.design.k - 1) (λ j. place_word L s (position_of (parity_of L s) j)) ++ line_end ∷ []

-- the lines of n stripes from `first` on
unfoldable pub lines_from : Layout → ℕ → ℕ → List ℕ
lines_from L first n = joined n (λ i. stripe_line L (first + i))

-- refused, and the number
abbrev pub refused_word : List ℕ
refused_word = 114 ∷ 101 ∷ 102 ∷ 117 ∷ 115 ∷ 101 ∷ 100 ∷ []

unfoldable pub refused_line : ℕ → List ℕ
refused_line n = refused_word ++ spaced (decimal n) ++ line_end ∷ []

-- ---- all of it

unfoldable pub text_by : Result Shelf Refusal → List ℕ
text_by (Ok h) = first_line h ++ lines_from (layout_in h) 0 (stripes (layout_in h))
text_by (Err x) = refused_line (number x)

-- what the layout program prints for a sheet
unfoldable pub layout_text : List ℕ → List ℕ
layout_text s = text_by (opened s)
