-- The sheet of a shelf: a shelf has one, and writing gives it. Assumes nothing.
use mathlib.Core.Path.{◌≡◌, sym, ◌∙◌}
use mathlib.Core.Logic.{◌⊎◌, inl, inr}
use mathlib.Core.Bool.{true, false}
use mathlib.Core.List.{List, ◌++◌}
use Prim.Native.Nat.{ℕ, ◌+◌, ◌*◌, ◌/◌, ◌≤◌, ◌<◌}
use native.Mathlib.Nat.{mul-le-mul_left}
use native.Mathlib.Omega.{arith}
use lib.Dec.{ltb}
use lib.ListN.{length, take, replicate, length-replicate}
use lib.Seq.{length-take-le, get_or-take}
use borrow.Author.Tests.{ltb-true, ltb-false}
use Rattle.fields.specs.Field.{bit_at}
use Rattle.fields.proofs.Bits.{zero_bit}
use Rattle.fields.proofs.Writes.{IsBytes}
use Rattle.fields.proofs.Laws.{ext_bits}
use Rattle.design.specs.declared.Shelf.{Shelf}
use Rattle.design.specs.Sheet.{sheet_length, table_size}
use Rattle.design.specs.Shelf.{Piece, header_in, numbers_in, sheet_in}
use Rattle.design.proofs.Counting.{decided}
use Rattle.design.proofs.Reading.{get_or-zeros}
use Rattle.design.proofs.ShelfTests.{IsShelf}
use Rattle.design.proofs.Packing.{bits_of, length-packed, bits_numbers}
use Rattle.design.proofs.Standing.{Standing, Fitting, bytes_packed, packed_out, packed_stands, standing_bits, numbers_fit}

-- the disk numbers that are written, and all pieces
abbrev pub disks_in : Shelf → List ℕ
disks_in h = take (h.b * h.k) h.table

abbrev pub pieces_in : Shelf → List Piece
pieces_in h = header_in h ++ numbers_in (disks_in h)

-- s is the sheet of h: its pieces from bit 0 on, and zero bits to the end of the last byte
pub record SheetOf (h : Shelf) (s : List ℕ) : Type 0 where
  pub bytes : IsBytes s
  pub exact : length s ≡ sheet_length (h.b * h.k)
  pub stands : Standing s 0 (pieces_in h)
  pub filling : (i : ℕ) → 48 + 6 * (h.b * h.k) ≤ i → i < 8 * length s → bit_at s i ≡ 0

module _ (h : Shelf) (room : h.b * h.k ≤ length h.table) where
  pub length_disks : length (disks_in h) ≡ h.b * h.k
  length_disks = length-take-le (h.b * h.k) h.table room

  bits_pieces : bits_of (pieces_in h) ≡ 48 + 6 * (h.b * h.k)
  unfolding bits_of header_in
  bits_pieces = omega (arith, bits_numbers (disks_in h), length_disks)

  -- a shelf has one sheet
  pub one-sheet : (s s' : List ℕ) → SheetOf h s → SheetOf h s' → s ≡ s'
  one-sheet s s' p q = ext_bits s s' same p.bytes q.bytes (λ i m. go i m (decided (ltb i (48 + 6 * (h.b * h.k)))))
    where
      same : length s ≡ length s'
      same = p.exact ∙ sym q.exact

      go : (i : ℕ) → i < 8 * length s → (ltb i (48 + 6 * (h.b * h.k)) ≡ true) ⊎ (ltb i (48 + 6 * (h.b * h.k)) ≡ false) → bit_at s i ≡ bit_at s' i
      go i m (inl t) =
          standing_bits s s' 0 (pieces_in h) p.stands q.stands i (omega arith) (omega (arith, ltb-true i (48 + 6 * (h.b * h.k)) t, bits_pieces))
      go i m (inr t) =
          let past = ltb-false i (48 + 6 * (h.b * h.k)) t in
          p.filling i past m ∙ sym (q.filling i past (omega arith))

-- ---- writing

-- a sheet has the bits of its header and of its disk numbers
pub sheet_bits : (n : ℕ) → 48 + 6 * n ≤ 8 * sheet_length n
unfolding sheet_length
sheet_bits n = omega arith

bit-zeros : (n i : ℕ) → bit_at (replicate n 0) i ≡ 0
unfolding bit_at
bit-zeros n i = rw (get_or-zeros n (i / 8)) (zero_bit _)

pub length-sheet : (h : Shelf) → length (sheet_in h) ≡ sheet_length (h.b * h.k)
unfolding sheet_in
length-sheet h = length-packed (replicate (sheet_length (h.b * h.k)) 0) 0 (pieces_in h) ∙ length-replicate (sheet_length (h.b * h.k)) 0

pub bytes_sheet : (h : Shelf) → IsBytes (sheet_in h)
unfolding sheet_in
bytes_sheet h =
    bytes_packed (replicate (sheet_length (h.b * h.k)) 0) 0 (pieces_in h)
    (λ i. omega (arith, get_or-zeros (sheet_length (h.b * h.k)) i))

module _ (h : Shelf) (w : IsShelf h) (full : length h.table ≡ table_size) where
  pub room : h.b * h.k ≤ length h.table
  room = omega (arith, w.limits.places)

  pieces_fit : Fitting (pieces_in h)
  unfolding header_in
  pieces_fit =
      let l = w.limits in
      let least : h.b * 2 ≤ h.b * h.k = mul-le-mul_left h.b l.k_least in
      let disks : Fitting (numbers_in (disks_in h)) =
      numbers_fit (disks_in h)
      (λ i m.
      let n : i < h.b * h.k = omega (arith, length_disks h room) in
      rw (get_or-take (h.b * h.k) h.table i 0 n) (omega (arith, w.below i n))) in
      (omega arith, (omega arith, (omega arith, (omega arith, (omega arith, (omega arith, disks))))))

  pub written : SheetOf h (sheet_in h)
  unfolding sheet_in
  written =
      let n = h.b * h.k in
      let bits = bits_pieces h room in
      record {
        bytes = bytes_sheet h;
        exact = length-sheet h;
        stands = packed_stands _ 0 (pieces_in h) pieces_fit (omega (arith, sheet_bits n, length-replicate {A = ℕ} (sheet_length n) 0));
        filling = λ i past m. packed_out _ 0 (pieces_in h) i (inr (omega arith)) ∙ bit-zeros (sheet_length n) i;
      }
