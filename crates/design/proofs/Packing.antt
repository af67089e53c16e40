-- Laws of writing back: what is no part of a sheet, pieces packed one after another, the sheet that they make, and the three ways in which
-- a call ends.
-- Assumes nothing.
use mathlib.Core.Path.{◌≡◌, refl, sym, ap, ap₂, ◌∙◌}
use mathlib.Core.Bool.{true, false}
use mathlib.Core.List.{List, [], ◌∷◌, ◌++◌}
use Prim.Native.Nat.{ℕ, ◌+◌, ◌*◌, ◌≤◌, ◌<◌}
use native.Mathlib.Nat.{add-zero, add_assoc}
use native.Mathlib.Numerals.{add-one}
use native.Mathlib.Omega.{arith}
use borrow.Author.Tests.{le-leb, lt-leb}
use lib.ListN.{length, get_or, take, drop, replicate}
use lib.Seq.{take-suc, length-take-le}
use Rattle.std.specs.Prelude.{Result, Err, Ok, ⊤}
use Rattle.fields.specs.Field.{with_field, Wrote}
use Rattle.fields.specs.declared.NoField.{NoField}
use Rattle.fields.proofs.Writes.{Inside, length-with_field}
use Rattle.fields.proofs.Laws.{wrote_done}
use Rattle.design.specs.declared.Shelf.{Shelf}
use Rattle.design.specs.declared.Refusal.TheVariants.{NotAShelf, OtherBuffer}
use Rattle.design.specs.Refusals.{first_broken, answered}
use Rattle.design.specs.Loss.{no_loss, with_loss}
use Rattle.design.specs.Sheet.{sheet_length}
use Rattle.design.specs.Shelf.{Piece, packed, header_in, numbers_in, sheet_in, is_shelf, back_rules, back_buffer, WroteBack}

-- the shelf with no disk lost
abbrev pub whole : Shelf → Shelf
whole h = with_loss h no_loss

-- the lost disk is not part of a sheet
pub loss_unwritten : (h : Shelf) → sheet_in (whole h) ≡ sheet_in h
unfolding sheet_in header_in
loss_unwritten h = refl

-- ---- pieces

-- the bits that the pieces take
unfoldable pub bits_of : List Piece → ℕ
bits_of [] = 0
bits_of (x ∷ l) = x.width + bits_of l

pub packed-append : (bytes : List ℕ) (at : ℕ) (l l' : List Piece) → packed bytes at (l ++ l') ≡ packed (packed bytes at l) (at + bits_of l) l'
unfolding packed bits_of
packed-append bytes at [] l' = rw add-zero
packed-append bytes at (x ∷ l) l' =
    packed-append (with_field bytes at x.width x.value) (at + x.width) l l' ∙ rw add_assoc

pub packed_none : (bytes : List ℕ) (at : ℕ) → bytes ≡ packed bytes at []
unfolding packed
packed_none bytes at = refl

pub length-packed : (bytes : List ℕ) (at : ℕ) (l : List Piece) → length (packed bytes at l) ≡ length bytes
unfolding packed
length-packed bytes at [] = refl
length-packed bytes at (x ∷ l) =
    length-packed (with_field bytes at x.width x.value) (at + x.width) l ∙ length-with_field bytes at x.width x.value

-- one piece put after those packed
pub packed_put : (bytes : List ℕ) (at : ℕ) (l : List Piece) (place width value : ℕ) {before after : List ℕ}
    → after ≡ with_field before place width value → before ≡ packed bytes at l → place ≡ at + bits_of l
    → after ≡ packed bytes at (l ++ record { width = width; value = value } ∷ [])
unfolding packed
packed_put bytes at l place width value {before} {after} put e p =
    put ∙ ap₂ (λ (b : List ℕ) (i : ℕ). with_field b i width value) e p ∙ sym (packed-append bytes at l (record { width = width; value = value } ∷ []))

-- ---- the disk numbers

pub bits_numbers : (l : List ℕ) → bits_of (numbers_in l) ≡ 6 * length l
unfolding bits_of numbers_in
bits_numbers [] = refl
bits_numbers (x ∷ l) = omega (arith, bits_numbers l)

numbers-append : (l l' : List ℕ) → numbers_in (l ++ l') ≡ numbers_in l ++ numbers_in l'
unfolding numbers_in
numbers-append [] l' = refl
numbers-append (x ∷ l) l' = ap (λ (t : List Piece). record { width = 6; value = x } ∷ t) (numbers-append l l')

numbers_more : (table : List ℕ) (i : ℕ) → i < length table
    → numbers_in (take (i + 1) table) ≡ numbers_in (take i table) ++ record { width = 6; value = get_or table i 0 } ∷ []
unfolding numbers_in
numbers_more table i h = rw (add-one, take-suc table i 0 h) (numbers-append (take i table) (get_or table i 0 ∷ []))

-- the next disk number, put after those before it
pub number_put : (bytes before after disks : List ℕ) (i : ℕ) → i < length disks → before ≡ packed bytes 48 (numbers_in (take i disks))
    → after ≡ with_field before (48 + 6 * i) 6 (get_or disks i 0) → after ≡ packed bytes 48 (numbers_in (take (i + 1) disks))
number_put bytes before after disks i more before-is put =
    let passed : length (take i disks) ≡ i = length-take-le i disks (omega arith) in
    let place : 48 + 6 * i ≡ 48 + bits_of (numbers_in (take i disks)) = omega (arith, bits_numbers (take i disks)) in
    rw (numbers_more disks i more) (packed_put bytes 48 (numbers_in (take i disks)) (48 + 6 * i) 6 (get_or disks i 0) put before-is place)

-- the next disk number of a sheet of n, written after those before it
pub number_wrote : (bytes before after table : List ℕ) (i n : ℕ) (r : Result ⊤ NoField)
    → i < n → n ≤ length table → length bytes ≡ sheet_length n → get_or table i 0 < 64 → before ≡ packed bytes 48 (numbers_in (take i table))
    → Wrote before (48 + 6 * i) 6 (get_or table i 0) r after → after ≡ packed bytes 48 (numbers_in (take (i + 1) table))
unfolding sheet_length
number_wrote bytes before after table i n r h l e fits before-is wrote =
    let same : length before ≡ length bytes = ap length before-is ∙ length-packed bytes 48 (numbers_in (take i table)) in
    let room : Inside before (48 + 6 * i) 6 = omega arith in
    number_put bytes before after table i (omega arith) before-is (wrote_done before (48 + 6 * i) 6 (get_or table i 0) r after room fits wrote).1

-- ---- the sheet

pub sheet-packed : (h : Shelf) → sheet_in h
    ≡ packed (packed (replicate (sheet_length (h.b * h.k)) 0) 0 (header_in h)) 48 (numbers_in (take (h.b * h.k) h.table))
unfolding sheet_in header_in bits_of
sheet-packed h = packed-append (replicate (sheet_length (h.b * h.k)) 0) 0 (header_in h) (numbers_in (take (h.b * h.k) h.table))

-- ---- writing back, way by way

module _ (h : Shelf) (buffer : List ℕ) where
  pub back_not_a-shelf : is_shelf h ≡ false → WroteBack h buffer (Err NotAShelf) buffer
  unfolding back_rules first_broken answered back_buffer
  back_not_a-shelf e = record { answers = rw e; leaves = rw e }

  pub back_other_buffer : is_shelf h ≡ true → length buffer < sheet_length (h.b * h.k) → WroteBack h buffer (Err OtherBuffer) buffer
  unfolding back_rules first_broken answered back_buffer
  back_other_buffer e l =
      let short = lt-leb (sheet_length (h.b * h.k)) (length buffer) l in
      record { answers = rw (e, short); leaves = rw (e, short) }

  pub back_written : is_shelf h ≡ true → sheet_length (h.b * h.k) ≤ length buffer
      → WroteBack h buffer (Ok (sheet_length (h.b * h.k))) (sheet_in h ++ drop (sheet_length (h.b * h.k)) buffer)
  unfolding back_rules first_broken answered back_buffer
  back_written e l =
      let room = le-leb (sheet_length (h.b * h.k)) (length buffer) l in
      record { answers = rw (e, room); leaves = rw (e, room) }
