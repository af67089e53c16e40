-- Laws of a part of a table: the tuples of the places in use, lent as a slice, are those of the table. Assumes nothing.
use mathlib.Core.Path.{◌≡◌, sym, ap, ap₂, ◌∙◌}
use mathlib.Core.Logic.{◌↔◌}
use mathlib.Core.Bool.{Bool, true, false, not, ◌&&◌}
use mathlib.Core.List.{List, []}
use Prim.Native.Nat.{ℕ, ◌+◌, ◌*◌, ◌/◌, ◌≤◌, ◌<◌}
use native.Mathlib.Nat.{mul-div_cancel, mul-le-mul_left}
use native.Mathlib.Omega.{arith}
use lib.Arith.{digits_lt}
use lib.Dec.{ltb, eqb}
use lib.ListN.{length, take, drop}
use Rattle.std.specs.Prelude.{None}
use Rattle.std.specs.Bool.{MatchBool}
use Rattle.std.specs.List.{AllWithin, HoldsAt}
use lib.Seq.{length-take-le, get_or-take}
use Rattle.design.specs.Count.{every}
use Rattle.design.specs.Tuples.{in_table, has, holds, shared, again, repeated, none_twice}
use Rattle.design.specs.inner.Tally.{disk_at, tuples_of}
use Rattle.design.proofs.Counting.{fails, every_ext, every_tested, count_ext}
use Rattle.design.proofs.Twice.{once_up_to, none_repeated}
use Rattle.design.proofs.Chunks.{chunks, length-chunks, chunk_is, length-chunk, chunk-entry}

-- ---- two tuples that have the same disks

module _ (f g : ℕ → ℕ) (k : ℕ) (same : (p : ℕ) → p < k → f p ≡ g p) where
  pub has_ext : (d : ℕ) → has f k d ≡ has g k d
  unfolding has
  has_ext d = ap (ltb 0) (count_ext _ _ k (λ p h. ap (λ (x : ℕ). eqb x d) (same p h)))

  again_ext : (i : ℕ) → i < k → again f k i ≡ again g k i
  unfolding again
  again_ext i l = ap (ltb 0) (count_ext _ _ k (λ j h. ap₂ (λ (x y : ℕ). ltb i j && eqb x y) (same i l) (same j h)))

  pub once_ext : every k (λ i. not (again f k i)) ≡ every k (λ i. not (again g k i))
  once_ext = every_ext k _ _ (λ i l. ap not (again_ext i l))

-- ---- the chunks of a slice are its tuples

module _ (k : ℕ) (disks : List ℕ) where
  once_chunk : (q : ℕ) → q < length disks / k → (let x = take k (drop (q * k) disks) in repeated (disk_at x) (length x) ≡ None)
      ↔ (once_up_to k (λ p. disk_at disks (q * k + p)) k ≡ true)
  once_chunk q h =
      let x = take k (drop (q * k) disks) in
      let whole : length x ≡ k = length-chunk k disks q h in
      let same = once_ext (disk_at x) (λ p. disk_at disks (q * k + p)) k (chunk-entry k disks q h) in
      let none : (repeated (disk_at x) (length x) ≡ None) ↔ (once_up_to k (disk_at x) k ≡ true) = rw whole (none_repeated (disk_at x) k) in
      (λ e. sym same ∙ none.0 e, λ e. none.1 (same ∙ e))

  pub none_twice_chunks : (r : Bool) → (let l = chunks k (length disks / k) disks in
      MatchBool r (AllWithin (λ x. repeated (disk_at x) (length x) ≡ None) l 0 (length l))
      ((q : ℕ) × (q < length l) × HoldsAt (λ x. repeated (disk_at x) (length x) ≡ None → ⊥) l q)) → r ≡ none_twice (tuples_of k disks)
  unfolding none_twice
  none_twice_chunks r h = every_tested (length disks / k) _ r (go r h)
    where
      b : ℕ
      b = length disks / k

      go : (r : Bool) → (let l = chunks k b disks in
          MatchBool r (AllWithin (λ x. repeated (disk_at x) (length x) ≡ None) l 0 (length l))
          ((q : ℕ) × (q < length l) × HoldsAt (λ x. repeated (disk_at x) (length x) ≡ None → ⊥) l q))
          → MatchBool r ((q : ℕ) → q < b → once_up_to k (λ p. disk_at disks (q * k + p)) k ≡ true)
          ((q : ℕ) × (q < b) × (once_up_to k (λ p. disk_at disks (q * k + p)) k ≡ false))
      go true h = λ q l. (once_chunk q l).0 (rw (chunk_is k b disks q [] l) at (h q [] (omega arith) (omega (arith, length-chunks k b disks))))
      go false (q, l, h) =
          let m : q < b = omega (arith, length-chunks k b disks) in
          (q, m, fails _ (λ e. (rw (chunk_is k b disks q [] m) at (h [])) ((once_chunk q m).1 e)))

-- ---- the table

module _ (v k b : ℕ) (table : List ℕ) (hk : 0 < k) (room : b * k ≤ length table) where
  pub tuples_in : length (take (b * k) table) / k ≡ b
  tuples_in = ap (λ (n : ℕ). n / k) (length-take-le (b * k) table room) ∙ mul-div_cancel b hk

  pub few_tuples : 2 ≤ k → b * k ≤ 2048 → length (take (b * k) table) / k ≤ 1024
  few_tuples h places = omega (arith, tuples_in, mul-le-mul_left b h)

  same_disks : (q : ℕ) → q < b → (p : ℕ) → p < k → disk_at (take (b * k) table) (q * k + p) ≡ disk_at table (q * k + p)
  same_disks q hq p hp = get_or-take (b * k) table (q * k + p) 0 (digits_lt hq hp)

  pub none_twice_part : none_twice (tuples_of k (take (b * k) table)) ≡ none_twice (in_table v k b table)
  unfolding none_twice
  none_twice_part = rw tuples_in (every_ext b _ _ (λ q hq. once_ext _ _ k (same_disks q hq)))

  pub shared_part : (d e : ℕ) → shared (tuples_of k (take (b * k) table)) (length (take (b * k) table) / k) d e ≡ shared (in_table v k b table) b d e
  unfolding shared holds
  shared_part d e =
      rw tuples_in (count_ext _ _ b (λ q hq. ap₂ ◌&&◌ (has_ext _ _ k (same_disks q hq) d) (has_ext _ _ k (same_disks q hq) e)))
