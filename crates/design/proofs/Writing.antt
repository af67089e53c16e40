-- A loop that writes the bytes s over part of a list, one in each turn, from the part's first byte on. Assumes nothing.
use mathlib.Core.Path.{◌≡◌, refl, ap, ◌∙◌}
use mathlib.Core.List.{List, append-nil}
use Prim.Native.Nat.{ℕ, ◌+◌, ◌≤◌, ◌<◌}
use native.Mathlib.Nat.{zero-add}
use native.Mathlib.Numerals.{add-one}
use native.Mathlib.Omega.{arith}
use lib.ListN.{length, get_or, set, take, length-set}
use lib.Seq.{paste, paste-zero, paste-suc, take_all, drop-length}

-- `now` is `was` with the first i of the n bytes s written from `at` on
pub record Begun (was : List ℕ) (at : ℕ) (s : List ℕ) (n : ℕ) (now : List ℕ) (i : ℕ) : Type 0 where
  pub size : length s ≡ n
  pub room : at + n ≤ length was
  pub most : i ≤ n
  pub same : length now ≡ length was
  pub is : now ≡ paste was at s i

module _ (was : List ℕ) (at : ℕ) (s : List ℕ) (n : ℕ) where
  pub begun_none : length s ≡ n → at + n ≤ length was → Begun was at s n was 0
  begun_none size room = record { size = size; room = room; most = omega arith; same = refl; is = paste-zero was at s }

  module _ (now : List ℕ) (i : ℕ) (b : Begun was at s n now i) where
    pub begun_next : (p x : ℕ) → i < n → p ≡ at + i → x ≡ get_or s i 0 → Begun was at s n (set now p x) (i + 1)
    begun_next p x l q e =
        record {
          size = b.size;
          room = b.room;
          most = omega arith;
          same = length-set now p x ∙ b.same;
          is = rw (b.is, q, e, add-one) (paste-suc was at s i 0 (omega arith) (omega arith));
        }

    pub begun_all : n ≤ i → now ≡ paste was at s n
    begun_all l = let all : i ≡ n = omega arith in b.is ∙ ap (paste was at s) all

-- the whole of a list written
pub begun_whole : (was s now : List ℕ) (i : ℕ) → Begun was 0 s (length was) now i → length was ≤ i → now ≡ s
begun_whole was s now i b l =
    begun_all was 0 s (length was) now i b l ∙ rw (zero-add, drop-length) (append-nil (take (length was) s) ∙ take_all (length was) s (omega arith))
