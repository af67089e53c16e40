-- Units that are rows of blocks: the exclusive-or of units, block by block, is that of the units. Assumes nothing.
use mathlib.Core.Path.{◌≡◌, refl, sym, ap, ap₂, ◌∙◌}
use mathlib.Core.Logic.{◌⊎◌, inl, inr}
use mathlib.Core.Bool.{Bool, true}
use mathlib.Core.List.{List, [], ◌∷◌, ◌++◌, append_assoc}
use Prim.Native.Nat.{ℕ, zero, suc, ◌+◌, ◌*◌, ◌/◌, ◌%◌, ◌≤◌, ◌<◌}
use native.Mathlib.Nat.{zero-mul, mul-le-mul_right}
use native.Mathlib.Omega.{arith}
use lib.Bits.{bit_xor}
use lib.Dec.{ltb, eqb}
use lib.ListN.{length, take, drop, get_or, length-replicate, get_or-replicate}
use lib.Seq.{paste, length-paste, take-paste, drop-paste, take-take, take-add, drop-drop}
use borrow.Author.Tests.{eqb-true, ltb-true, ltb-false}
use Rattle.design.proofs.Counting.{both}
use Rattle.design.proofs.Writing.{Begun, begun_none, begun_all}
use Rattle.parity.specs.Units.{zeros, unit_at, xor_u, xor_sum, put}
use Rattle.parity.specs.inner.Stores.{put_unit}
use Rattle.parity.specs.inner.Blocks.{by_blocks, rest_of, blocks_at, Within}
use Rattle.parity.proofs.Cases.{cases, put_ext}
use Rattle.parity.proofs.Xor.{xor_sum_ext}
use Rattle.parity.proofs.Put.{unit_size, unit-byte, unit_ext}
use Rattle.parity.proofs.Writing.{begun_rest}

-- ---- a part of an exclusive-or

take-xor : (n : ℕ) (x y : List ℕ) → take n (xor_u x y) ≡ xor_u (take n x) (take n y)
unfolding xor_u
take-xor zero x y = refl
take-xor (suc n) [] y = refl
take-xor (suc n) (a ∷ x) [] = refl
take-xor (suc n) (a ∷ x) (b ∷ y) = ap (λ (r : List ℕ). bit_xor a b ∷ r) (take-xor n x y)

drop-xor : (n : ℕ) (x y : List ℕ) → drop n (xor_u x y) ≡ xor_u (drop n x) (drop n y)
unfolding xor_u
drop-xor zero x y = refl
drop-xor (suc n) [] y = refl
drop-xor (suc n) (a ∷ x) [] = right (drop n x)
  where
    right : (x : List ℕ) → x ≡ xor_u x []
    right [] = refl
    right (a ∷ x) = refl
drop-xor (suc n) (a ∷ x) (b ∷ y) = drop-xor n x y

module _ (B per : ℕ) (q : ℕ) (l : q < per) where
  pub block_room : q * B + B ≤ per * B
  block_room = omega (arith, mul-le-mul_right B l)

  block_xor : (x y : List ℕ) → unit_at B (xor_u x y) q ≡ xor_u (unit_at B x q) (unit_at B y q)
  unfolding unit_at
  block_xor x y = ap (take B) (drop-xor (q * B) x y) ∙ take-xor B (drop (q * B) x) (drop (q * B) y)

  -- a block with that of another unit mixed in
  pub block_mixed : (x y : List ℕ) {z w : List ℕ} → length z ≡ B → z ≡ unit_at B x q → w ≡ xor_u z (unit_at (length z) y q) → w ≡ unit_at B (xor_u x y) q
  block_mixed x y {z} {w} size e mixed =
      let here : w ≡ xor_u z (unit_at B y q) = rw size at mixed in
      here ∙ ap (λ (v : List ℕ). xor_u v (unit_at B y q)) e ∙ sym (block_xor x y)

  block_zeros : unit_at B (zeros (per * B)) q ≡ zeros B
  block_zeros =
      let size : length (zeros (per * B)) ≡ per * B = length-replicate (per * B) 0 in
      unit_ext B (unit_at B (zeros (per * B)) q) (zeros B) (unit_size B (zeros (per * B)) q (omega (arith, block_room, size))) (length-replicate B 0)
      (λ z h. unit-byte B (zeros (per * B)) q z h ∙ get_or-replicate (per * B) (q * B + z) 0 0 (omega (arith, block_room)) ∙ sym (get_or-replicate B z 0 0 h))

  -- block q of unit n, by its number among all blocks
  block_unit : (row : List ℕ) (n : ℕ) → n * (per * B) + per * B ≤ length row → unit_at B (unit_at (per * B) row n) q ≡ unit_at B row (n * per + q)
  block_unit row n fits =
      let unit : List ℕ = unit_at (per * B) row n in
      let size : length unit ≡ per * B = unit_size (per * B) row n fits in
      unit_ext B (unit_at B unit q) (unit_at B row (n * per + q))
      (unit_size B unit q (omega (arith, block_room, size)))
      (unit_size B row (n * per + q) (omega (arith, block_room)))
      (λ z h. let same : n * (per * B) + (q * B + z) ≡ (n * per + q) * B + z = omega arith in
      unit-byte B unit q z h
      ∙ unit-byte (per * B) row n (q * B + z) (omega (arith, block_room))
      ∙ ap (λ (m : ℕ). get_or row m 0) same
      ∙ sym (unit-byte B row (n * per + q) z h))

  block_sum : (f : ℕ → List ℕ) (k : ℕ) → unit_at B (xor_sum (per * B) f k) q ≡ xor_sum B (λ j. unit_at B (f j) q) k
  unfolding xor_sum
  block_sum f zero = block_zeros
  block_sum f (suc k) = block_xor (xor_sum (per * B) f k) (f k) ∙ ap (λ (x : List ℕ). xor_u x (unit_at B (f k) q)) (block_sum f k)

  -- a block of the exclusive-or is that of the blocks
  pub block_rest : (row : List ℕ) (number : ℕ → ℕ) (i k : ℕ) → Within (per * B) number k (length row)
      → {x : List ℕ} → x ≡ rest_of B row (blocks_at number per q) i k → x ≡ unit_at B (rest_of (per * B) row number i k) q
  block_rest row number i k fits e =
      let f : ℕ → List ℕ = λ j. unit_at (per * B) row (number j) in
      let g : ℕ → List ℕ = λ j. unit_at B row (number j * per + q) in
      e
      ∙ sym (block_sum (put f i (zeros (per * B))) k
      ∙ xor_sum_ext B (λ j. unit_at B (put f i (zeros (per * B)) j) q) (put g i (zeros B)) k
      (λ j h. cases (eqb j i) (λ e. rw e block_zeros) (λ e. rw e (block_unit row (number j) (fits j h)))))

  pub block_within : (number : ℕ → ℕ) (k n : ℕ) → Within (per * B) number k n → Within B (blocks_at number per q) k n
  block_within number k n fits j h = omega (arith, block_room, fits j h)

-- ---- blocks stored one after another

-- m bytes more
begun_more : (was : List ℕ) (at : ℕ) (s : List ℕ) (n : ℕ) (now : List ℕ) (i : ℕ) → Begun was at s n now i
    → (m : ℕ) → i + m ≤ n → Begun was at s n (paste now (at + i) (take m (drop i s)) m) (i + m)
begun_more was at s n now i b m l =
    let fits : at + i ≤ length was = omega (arith, b.room, b.most) in
    let ends : at + i + m ≡ at + (i + m) = omega arith in
    let is : paste now (at + i) (take m (drop i s)) m ≡ paste was at s (i + m) =
    rw b.is
    (ap₂ (λ (x y : List ℕ). x ++ take m (take m (drop i s)) ++ y)
    (take-paste was at s i (omega arith) (omega (arith, b.size, b.most)))
    (sym (drop-drop m (at + i) (paste was at s i)) ∙ ap (drop m) (drop-paste was at s i (omega arith) (omega (arith, b.size, b.most))) ∙ drop-drop m (at + i) was)
    ∙ ap₂ (λ (x y : List ℕ). x ++ y)
    (append_assoc (take at was) (take i s) (take m (take m (drop i s)))
    ∙ ap (λ (x : List ℕ). take at was ++ x) (ap (λ (x : List ℕ). take i s ++ x) (take-take m m (drop i s) (omega arith)) ∙ sym (take-add i m s)))
    (ap (λ (z : ℕ). drop z was) ends)) in
    record {
      size = b.size;
      room = b.room;
      most = l;
      same = ap length is ∙ length-paste was at s (i + m) (omega (arith, b.room)) (omega (arith, b.size));
      is = is;
    }

-- `now` is `was`, with the first q blocks of x for those of unit n
pub record Filled (B per : ℕ) (was : List ℕ) (n : ℕ) (x now : List ℕ) (q : ℕ) : Type 0 where
  pub most : q ≤ per
  pub begun : Begun was (n * (per * B)) x (per * B) now (q * B)

pub filled_none : (B per : ℕ) (was : List ℕ) (n : ℕ) (x : List ℕ) → length x ≡ per * B → n * (per * B) + per * B ≤ length was → Filled B per was n x was 0
filled_none B per was n x size fits = record { most = omega arith; begun = rw (zero-mul B) (begun_none was (n * (per * B)) x (per * B) size fits) }

module _ {B per : ℕ} {was : List ℕ} {n : ℕ} {x now : List ℕ} {q : ℕ} (F : Filled B per was n x now q) where
  pub filled_fits : q < per → (n * per + q) * B + B ≤ length now
  filled_fits l = omega (arith, block_room B per q l, F.begun.room, F.begun.same)

  -- block q is stored
  pub filled_next : {after y : List ℕ} → q < per → after ≡ put_unit B now (n * per + q) y → y ≡ unit_at B x q → Filled B per was n x after (q + 1)
  unfolding put_unit unit_at
  filled_next {after} {y} l e is =
      let at : ℕ = n * (per * B) in
      let start : (n * per + q) * B ≡ at + q * B = omega arith in
      let ends : q * B + B ≡ (q + 1) * B = omega arith in
      let more : Begun was at x (per * B) (paste now (at + q * B) (take B (drop (q * B) x)) B) (q * B + B) = begun_more was at x (per * B) now (q * B) F.begun B (block_room B per q l) in
      let stored : after ≡ paste now (at + q * B) (take B (drop (q * B) x)) B = e ∙ ap₂ (λ (z : ℕ) (w : List ℕ). paste now z w B) start is in
      record { most = omega arith; begun = rw (stored, ← ends) more }

  pub filled-all : per ≤ q → now ≡ put_unit (per * B) was n x
  unfolding put_unit
  filled-all least = let all : q ≡ per = omega (arith, F.most) in begun_all _ _ _ _ now (q * B) F.begun (rw all (omega arith))

  -- block q of any unit is as it was
  unread : q < per → (m : ℕ) → m * (per * B) + per * B ≤ length was → unit_at B now (m * per + q) ≡ unit_at B was (m * per + q)
  unread l m fits =
      let inside : q * B + B ≤ per * B = block_room B per q l in
      let ends : (m * per + q) * B + B ≤ length was = omega arith in
      unit_ext B (unit_at B now (m * per + q)) (unit_at B was (m * per + q))
      (unit_size B now (m * per + q) (omega (arith, F.begun.same)))
      (unit_size B was (m * per + q) ends)
      (λ z h. unit-byte B now (m * per + q) z h
      ∙ begun_rest was (n * (per * B)) x (per * B) now (q * B) F.begun ((m * per + q) * B + z) (apart m z inside h)
      ∙ sym (unit-byte B was (m * per + q) z h))
    where
      apart : (m z : ℕ) → q * B + B ≤ per * B → z < B → ((m * per + q) * B + z < n * (per * B)) ⊎ (n * (per * B) + q * B ≤ (m * per + q) * B + z)
      apart m z inside h =
          cases (ltb m n)
          (λ e. inl (omega (arith, mul-le-mul_right (per * B) (ltb-true m n e))))
          (λ e. let more : n ≤ m = omega (arith, ltb-false m n e) in inr (omega (arith, mul-le-mul_right (per * B) more)))

  module _ (number : ℕ → ℕ) (k : ℕ) (fits : Within (per * B) number k (length was)) (l : q < per) where
    pub filled_within : Within B (blocks_at number per q) k (length now)
    filled_within = rw F.begun.same (block_within B per q l number k (length was) fits)

    -- so block q of the exclusive-or can be taken from what is there now
    pub filled-rest : (i : ℕ) {y : List ℕ} → y ≡ rest_of B now (blocks_at number per q) i k → y ≡ unit_at B (rest_of (per * B) was number i k) q
    filled-rest i e =
        block_rest B per q l was number i k fits
        (e ∙ xor_sum_ext B _ _ k (λ j h. put_ext (λ m. unit_at B now (number m * per + q)) (λ m. unit_at B was (number m * per + q)) i (zeros B) j (λ ne. unread l (number j) (fits j h))))

-- ---- when blocks serve

-- a unit of whole blocks is as long as they are
pub whole_blocks : (k U : ℕ) {b : Bool} → b ≡ by_blocks k U → b ≡ true → U / 128 * 128 ≡ U
unfolding by_blocks
whole_blocks k U e t = omega (arith, eqb-true (U % 128) 0 (both (ltb 3 k) (eqb (U % 128) 0) (sym e ∙ t)).1)
