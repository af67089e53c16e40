-- A sheet and its shelf decide each other: opening what was written gives the shelf back, its lost disk apart, writing what was
-- opened gives the sheet back, and number 10 is given exactly to the other shelf values. Assumes nothing.
use mathlib.Core.Path.{◌≡◌, refl, sym, ap, ap₂, ◌∙◌}
use mathlib.Core.Logic.{◌⊎◌, inl, inr, ◌↔◌}
use mathlib.Core.Bool.{true, false, cond}
use mathlib.Core.List.{List}
use Prim.Native.Nat.{ℕ, ◌*◌, ◌<◌}
use native.Mathlib.Omega.{arith}
use lib.Dec.{ltb}
use lib.ListN.{length, get_or}
use lib.Seq.{get_or-take}
use borrow.Author.Tests.{ltb-true, ltb-false, le-leb, eq-eqb}
use Rattle.std.specs.Prelude.{Ok, Err}
use Rattle.design.specs.Refusals.{verdict}
use Rattle.fields.proofs.Writes.{IsBytes}
use Rattle.design.specs.declared.Refusal.{Refusal}
use Rattle.design.specs.declared.Shelf.{Shelf}
use Rattle.design.specs.Tuples.{Design, before, shared, disks_below, none_twice, disks_even, pairs_even}
use Rattle.design.specs.Sheet.{v_of, k_of, b_of, number_of, design_of, table_size, table_of, empty_shelf, shelf_of, shelf_or_empty, opened_shelf, opened, HeaderRead}
use Rattle.design.specs.Loss.{loss_below}
use Rattle.design.specs.Shelf.{design_in, is_shelf, header_in, sheet_in}
use Rattle.design.proofs.Counting.{decided, fails}
use Rattle.design.proofs.Reading.{filled-table, table_inside, table_past, length-table}
use Rattle.design.proofs.Opening.{read_design, shelf-read, accepted}
use Rattle.design.proofs.Tests.{limits, below_at, below_of, disks_even_lem, pairs_even_lem}
use Rattle.design.proofs.Twice.{twice}
use Rattle.design.proofs.Losses.{none_below}
use Rattle.design.proofs.ShelfTests.{IsShelf, shelf_parts, shelf-whole}
use Rattle.design.proofs.Refused.{accepted_shelf, refused_empty, verdict_ok, ok_shelf}
use Rattle.design.proofs.Accepted.{disks_below_lem, filling_zero_lem, accepted_well_formed, balanced_as_counted}
use Rattle.design.proofs.Standing.{numbers_standing, standing_numbers}
use Rattle.design.proofs.Packing.{whole}
use Rattle.design.proofs.Written.{disks_in, SheetOf, length_disks, one-sheet, sheet_bits, bytes_sheet, room, written}

-- a lost disk below v makes no difference
whole-shelf : (h : Shelf) → loss_below h.loss h.v ≡ true → is_shelf (whole h) ≡ is_shelf h
unfolding is_shelf
whole-shelf h l = rw (l, none_below h.v)

-- ---- opening

module _ (s : List ℕ) (e : verdict (opened s) ≡ Ok tt) where
  shelf-opened : IsShelf (shelf_of s)
  unfolding shelf_of
  shelf-opened =
      let w = accepted_well_formed s e in
      let balanced = balanced_as_counted s e in
      let n = b_of s * k_of s in
      record {
        limits = w.limits;
        zero = table_past s n;
        below = below_at (v_of s) (k_of s) (b_of s) (table_of s n) ((disks_below_lem (design_of s)).1 w.below);
        different = balanced.different;
        often = balanced.often;
        paired = λ d f m l. balanced.paired d f m (omega arith) (omega arith);
        loss = none_below (v_of s);
      }

  pub opened_is_shelf : is_shelf (opened_shelf s) ≡ true
  opened_is_shelf = rw (accepted_shelf s e) (shelf-whole (shelf_of s) shelf-opened)

  opened_full : length (shelf_of s).table ≡ table_size
  unfolding shelf_of
  opened_full = length-table s (b_of s * k_of s)

  pub opened-sheet : IsBytes s → SheetOf (shelf_of s) s
  unfolding shelf_of header_in
  opened-sheet bytes =
      let w = accepted_well_formed s e in
      let n = b_of s * k_of s in
      let numbered =
      standing_numbers s 48 (disks_in (shelf_of s))
      (λ i l.
      let m : i < n = omega (arith, length_disks (shelf_of s) (room (shelf_of s) shelf-opened opened_full)) in
      sym (get_or-take n (table_of s n) i 0 m ∙ table_inside s n i w.limits.places m)) in
      record {
        bytes = bytes;
        exact = w.exact;
        stands = (w.edition, (refl, (refl, (refl, (refl, (refl, numbered))))));
        filling = w.filling;
      }

  -- writing what was opened gives the sheet back
  pub opened_writes : IsBytes s → sheet_in (opened_shelf s) ≡ s
  opened_writes bytes =
      let h = shelf_of s in
      rw (accepted_shelf s e)
      (one-sheet h (room h shelf-opened opened_full) (sheet_in h) s (written h shelf-opened opened_full) (opened-sheet bytes))

-- ---- there and back

module _ (h : Shelf) (w : IsShelf h) (full : length h.table ≡ table_size) (s : List ℕ) (sheet : SheetOf h s) where
  header_read : HeaderRead s h.v h.k h.b h.T h.u
  unfolding header_in
  header_read =
      let p = sheet.stands in
      record {
        long = le-leb 6 (length s) (omega (arith, sheet.exact, sheet_bits (h.b * h.k)));
        edition = eq-eqb _ 1 p.0;
        limits = (limits h.v h.k h.b h.T h.u).1 w.limits;
        exact = sheet.exact;
        v_is = sym p.1.0;
        k_is = sym p.1.1.0;
        b_is = sym p.1.1.1.0;
        T_is = sym p.1.1.1.1.0;
        u_is = sym p.1.1.1.1.1.0;
      }

  table-read : h.table ≡ table_of s (h.b * h.k)
  unfolding header_in
  table-read = filled-table s h.table n full (λ j l. go j l (decided (ltb j n)))
    where
      n : ℕ
      n = h.b * h.k

      go : (j : ℕ) → j < table_size → (ltb j n ≡ true) ⊎ (ltb j n ≡ false) → get_or h.table j 0 ≡ cond (ltb j n) (number_of s j) 0
      go j l (inl t) =
          let m : j < n = ltb-true j n t in
          rw t
          (sym (numbers_standing s 48 (disks_in h) sheet.stands.1.1.1.1.1.1 j (omega (arith, length_disks h (room h w full)))
          ∙ get_or-take n h.table j 0 m))
      go j l (inr t) = rw t (w.zero j (ltb-false j n t) l)

  design-read : read_design s h.v h.k h.b ≡ design_in h
  design-read = rw (← table-read)

  r_read : before (read_design s h.v h.k h.b) h.b 0 ≡ h.r
  r_read = ap (λ (D : Design). before D h.b 0) design-read ∙ w.often 0 (omega (arith, w.limits.v_least))

  lambda_read : shared (read_design s h.v h.k h.b) h.b 1 0 ≡ h.lambda
  lambda_read = ap (λ (D : Design). shared D h.b 1 0) design-read ∙ w.paired 1 0 (omega (arith, w.limits.v_least)) (omega arith)

  -- the sheet of a shelf opens as that shelf, with no disk lost
  pub sheet_opens : opened s ≡ Ok (whole h)
  sheet_opens =
      let D = design_in h in
      let same = design-read in
      let below = ap disks_below same ∙ below_of h.v h.k h.b h.table w.below in
      let once = ap none_twice same ∙ (twice D).1 w.different in
      let filling = (filling_zero_lem s (h.b * h.k)).1 sheet.filling in
      let even = ap₂ disks_even same r_read ∙ (disks_even_lem D h.r).1 w.often in
      let pairs = ap₂ pairs_even same lambda_read ∙ (pairs_even_lem D h.lambda).1 w.paired in
      sym (accepted s h.v h.k h.b h.T h.u header_read below once filling even pairs)
      ∙ ap Ok (sym (shelf-read s h.v h.k h.b h.T h.u header_read table-read (sym r_read) (sym lambda_read) refl))

-- a value that an accepted opening can give
pub record Given (h : Shelf) : Type 0 where
  pub sheet : List ℕ
  pub bytes : IsBytes sheet
  pub accepts : verdict (opened sheet) ≡ Ok tt
  pub gives : opened_shelf sheet ≡ h

module _ (h : Shelf) (full : length h.table ≡ table_size) where
  -- opening what was written gives the shelf back, its lost disk apart
  pub written_opens : is_shelf h ≡ true → opened (sheet_in h) ≡ Ok (whole h)
  written_opens e = let w = shelf_parts h e in sheet_opens h w full (sheet_in h) (written h w full)

  -- number 10 is given exactly when the value is not one that an accepted opening can give, a lost disk below v apart
  pub shelf_exactly : (is_shelf h ≡ true) ↔ (Given (whole h) × (loss_below h.loss h.v ≡ true))
  shelf_exactly = (given, taken)
    where
      given : is_shelf h ≡ true → Given (whole h) × (loss_below h.loss h.v ≡ true)
      given e =
          let opens = written_opens e in (
            record { sheet = sheet_in h; bytes = bytes_sheet h; accepts = ap verdict opens ∙ verdict_ok (whole h); gives = ap shelf_or_empty opens ∙ ok_shelf (whole h) },
            (shelf_parts h e).loss,
          )

      taken : Given (whole h) × (loss_below h.loss h.v ≡ true) → is_shelf h ≡ true
      taken (g, l) = sym (whole-shelf h l) ∙ rw g.gives at (opened_is_shelf g.sheet g.accepts)

-- ---- the shelf of a refused opening

pub empty_refused : is_shelf empty_shelf ≡ false
unfolding empty_shelf
empty_refused = fails (is_shelf empty_shelf) (λ e. let l = (shelf_parts empty_shelf e).limits.v_least in omega arith)

pub refused_not_shelf : (s : List ℕ) (x : Refusal) → verdict (opened s) ≡ Err x → is_shelf (opened_shelf s) ≡ false
refused_not_shelf s x e = rw (refused_empty s x e) empty_refused
