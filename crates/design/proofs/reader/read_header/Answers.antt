-- `design::reader::read_header` meets its contract: each field stands where the fields before it end, inside the six bytes of the
-- header. Assumes nothing.
use Rattle.std.proofs.Common.{arith, ◌≡◌, ◌+◌, ◌^◌, ◌<◌, ◌≤◌, ℕ, List, length, true}
use Rattle.fields.specs.Field.{is_field}
use Rattle.fields.proofs.Laws.{is_field_iff}
use Rattle.design.proofs.reader.read_header.Goals as goal

-- what the reader has reached, at bit `at` of the sheet, is a field of the header
reached : (s : List ℕ) (at w : ℕ) {here : List ℕ} {bit : ℕ} → 6 ≤ length s → (1 ≤ w) × (w ≤ 32) × (at + w ≤ 48) → here ≡ s → bit ≡ at
    → (is_field here bit w ≡ true) × (bit + w < 2 ^ 64)
reached s at w long fits same stands =
    rw (same, stands) ((is_field_iff s at w).1 (record { least = fits.0; most = fits.1; ends = omega (arith, fits.2) }), omega (arith, fits.2))

pub take-edition-requires : goal.take-edition-requires
take-edition-requires c = reached c.args.sheet.now 0 4 c.requires (omega arith, omega arith, omega arith) (cc) (omega arith)

pub take-v-requires : goal.take-v-requires
take-v-requires c = reached c.args.sheet.now 4 7 c.requires (omega arith, omega arith, omega arith) (cc) (omega arith)

pub take-k-requires : goal.take-k-requires
take-k-requires c = reached c.args.sheet.now 11 5 c.requires (omega arith, omega arith, omega arith) (cc) (omega arith)

pub take-b-requires : goal.take-b-requires
take-b-requires c = reached c.args.sheet.now 16 12 c.requires (omega arith, omega arith, omega arith) (cc) (omega arith)

pub take-t-requires : goal.take-t-requires
take-t-requires c = reached c.args.sheet.now 28 16 c.requires (omega arith, omega arith, omega arith) (cc) (omega arith)

pub take-u-requires : goal.take-u-requires
take-u-requires c = reached c.args.sheet.now 44 4 c.requires (omega arith, omega arith, omega arith) (cc) (omega arith)
