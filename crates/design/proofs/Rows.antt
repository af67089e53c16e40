-- Laws of adding a mask to a row of planes: the carry goes through its words. Assumes nothing.
use mathlib.Core.Path.{◌≡◌, refl, ap}
use mathlib.Core.Logic.{◌≢◌}
use mathlib.Core.List.{List}
use Prim.Native.Nat.{ℕ, zero, suc, ◌+◌, ◌*◌, ◌^◌, ◌<◌}
use native.Mathlib.Nat.{pow-suc}
use native.Mathlib.Numerals.{add-one}
use native.Mathlib.Omega.{arith}
use lib.Bits.{bit_and, bit_xor, and_le_r, and_comm}
use lib.ListN.{length, set, length-set}
use lib.Seq.{get_or-set_same, get_or-set_other}
use Rattle.design.specs.inner.Planes.{bit, lane, plane_of, counted, AddedRow}
use Rattle.design.proofs.Bits.{bit_zero, half-add, no_bits}
use Rattle.design.proofs.Lanes.{lane-put}

-- ---- the carry

-- a mask is being added to the n words f: words below i have taken it, and c is carried into word i
abbrev Rippled : (ℕ → ℕ) → ℕ → ℕ → ℕ → (ℕ → ℕ) → ℕ → Type 0
Rippled f n mask i g c = (e : ℕ) → lane g n e + 2 ^ i * bit c e ≡ lane f n e + bit mask e

ripple_none : (f : ℕ → ℕ) (n mask : ℕ) → Rippled f n mask 0 f mask
ripple_none f n mask e = omega arith

-- word i takes the carry
ripple_next : (f g g' : ℕ → ℕ) (n mask i c : ℕ) → i < n → g' i ≡ bit_xor (g i) c → ((j : ℕ) → j < n → j ≢ i → g' j ≡ g j)
    → Rippled f n mask i g c → Rippled f n mask (i + 1) g' (bit_and (g i) c)
ripple_next f g g' n mask i c h p o r e =
    let q : bit (g' i) e ≡ bit (bit_xor (g i) c) e = ap (λ (x : ℕ). bit x e) p in
    let s : 2 ^ i * (bit (bit_xor (g i) c) e + 2 * bit (bit_and (g i) c) e) ≡ 2 ^ i * (bit (g i) e + bit c e) = ap (λ (x : ℕ). 2 ^ i * x) (half-add (g i) c e) in
    rw (add-one, pow-suc) (omega (arith, r e, rw q at (lane-put g g' i n e h o), s))

-- nothing is left to carry
ripple_done : (f g : ℕ → ℕ) (n mask i : ℕ) → Rippled f n mask i g 0 → (e : ℕ) → lane g n e ≡ lane f n e + bit mask e
ripple_done f g n mask i r e = omega (arith, rw (bit_zero e) at (r e))

-- where no lane overflows, nothing is carried out of the last word
ripple_ends : (f g : ℕ → ℕ) (n mask c w : ℕ) → c < 2 ^ w → ((e : ℕ) → e < w → lane f n e + bit mask e < 2 ^ n) → Rippled f n mask n g c → c ≡ 0
ripple_ends f g n mask c w h room r = no_bits w c h none
  where
    none : (e : ℕ) → e < w → bit c e ≡ 0
    none e l = go (bit c e) (omega (arith, r e, room e l))
      where
        go : (x : ℕ) → 2 ^ n * x < 2 ^ n → x ≡ 0
        go zero m = refl
        go (suc x) m = absurd (omega arith)

-- ---- the row

-- the mask is being added to a row: its planes below i have been passed, and c is carried into plane i
pub record Adding (row₀ : List ℕ) (mask : ℕ) (row : List ℕ) (c i : ℕ) : Type 0 where
  pub carried : c < 2 ^ 64
  pub long : length row ≡ 11
  pub rippled : Rippled (plane_of row₀) 11 mask i (plane_of row) c

pub adding_none : (row : List ℕ) (mask : ℕ) → mask < 2 ^ 64 → length row ≡ 11 → Adding row mask row mask 0
adding_none row mask h l = record { carried = h; long = l; rippled = ripple_none (plane_of row) 11 mask }

module _ (row₀ : List ℕ) (mask : ℕ) (row : List ℕ) (c i : ℕ) (a : Adding row₀ mask row c i) where
  pub adding_next : i < 11 → Adding row₀ mask (set row i (bit_xor (plane_of row i) c)) (bit_and c (plane_of row i)) (i + 1)
  adding_next h =
      let x = bit_xor (plane_of row i) c in
      let e : length row ≡ 11 = a.long in
      let more : bit_and (plane_of row i) c ≡ bit_and c (plane_of row i) = and_comm (plane_of row i) c in
      record {
        carried = omega (arith, and_le_r (plane_of row i) c, a.carried, more);
        long = simp length-set e;
        rippled =
            rw more at (ripple_next (plane_of row₀) (plane_of row) (plane_of (set row i x)) 11 mask i c h
            (get_or-set_same row i x 0 (omega arith)) (λ j l n. get_or-set_other row i j x 0 n) a.rippled);
      }

  -- nothing is left to carry
  pub adding_done : c ≡ 0 → AddedRow mask row₀ row
  adding_done z = ripple_done (plane_of row₀) (plane_of row) 11 mask i (rw z at a.rippled)

  -- nor is anything at the end of the row, where each lane has room
  pub adding_end : ((e : ℕ) → e < 64 → counted row₀ e + bit mask e < 2 ^ 11) → i ≡ 11 → AddedRow mask row₀ row
  adding_end room e = adding_done (ripple_ends (plane_of row₀) (plane_of row) 11 mask c 64 a.carried room (rw e at a.rippled))
