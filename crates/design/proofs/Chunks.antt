-- Laws of the whole chunks of a list, and of the iterator that lends one after another. Assumes nothing.
use mathlib.Core.Path.{◌≡◌, refl, sym, ap, ◌∙◌}
use mathlib.Core.List.{List, [], ◌∷◌, ◌++◌}
use Prim.Native.Nat.{ℕ, zero, suc, ◌+◌, ◌-◌, ◌*◌, ◌/◌, ◌≤◌, ◌<◌}
use native.Mathlib.Nat.{zero-mul, div-add-mod', mod-lt, div-mul-le_self, le-div_iff_mul-le, mul-le-mul_right}
use native.Mathlib.Omega.{arith}
use lib.ListN.{length, get_or, take, drop, length-append, length-drop, get_or-append}
use lib.Seq.{take_at, drop_at, drop-drop, length-take-le, get_or-take}
use Rattle.std.proofs.lemmas.List.{get_or-drop}
use denote.Ref.{Bor}
use Rattle.std.specs.Prelude.{Some}
use Rattle.std.specs.Iterator.{AlwaysYields}
use Rattle.std.specs.Slice.Iter.{chunks_exact_rest, chunks_exact_size, chunks_exact_steps}
use Rattle.std.specs.declared.slice.ChunksExact.{ChunksExact}
use Rattle.std.proofs.lemmas.Iterator.{YieldsList}

-- n chunks of k entries
unfoldable pub chunks : ℕ → ℕ → List ℕ → List (List ℕ)
chunks k zero xs = []
chunks k (suc n) xs = take k xs ∷ chunks k n (drop k xs)

pub length-chunks : (k n : ℕ) (xs : List ℕ) → length (chunks k n xs) ≡ n
unfolding chunks
length-chunks k zero xs = refl
length-chunks k (suc n) xs = ap suc (length-chunks k n (drop k xs))

drop_chunk : (k : ℕ) (xs : List ℕ) (q : ℕ) → drop (q * k) (drop k xs) ≡ drop (suc q * k) xs
drop_chunk k xs q = drop-drop (q * k) k xs ∙ ap (λ (n : ℕ). drop n xs) (omega arith)

pub chunk_is : (k n : ℕ) (xs : List ℕ) (q : ℕ) (d : List ℕ) → q < n → get_or (chunks k n xs) q d ≡ take k (drop (q * k) xs)
unfolding chunks
chunk_is k zero xs q d h = absurd (omega arith)
chunk_is k (suc n) xs zero d h = rw zero-mul
chunk_is k (suc n) xs (suc q) d h = chunk_is k n (drop k xs) q d (omega arith) ∙ ap (take k) (drop_chunk k xs q)

-- chunk q has the entries from q * k on
module _ (k : ℕ) (xs : List ℕ) (q : ℕ) (h : q < length xs / k) where
  pub length-chunk : length (take k (drop (q * k) xs)) ≡ k
  length-chunk = length-take-le k (drop (q * k) xs) (omega (arith, length-drop (q * k) xs, div-mul-le_self (length xs) k, mul-le-mul_right k h))

  pub chunk-entry : (p : ℕ) → p < k → get_or (take k (drop (q * k) xs)) p 0 ≡ get_or xs (q * k + p) 0
  chunk-entry p l = get_or-take k (drop (q * k) xs) p 0 l ∙ get_or-drop (q * k) xs p 0

-- an iterator lends them
chunk_by_chunk : (n k : ℕ) (xs : List ℕ) (s : ChunksExact ℕ) → chunks_exact_size s ≡ k → chunks_exact_rest s ≡ xs → n * k ≤ length xs → length xs < n * k + k
    → AlwaysYields (chunks_exact_steps {A = ℕ}) (λ x. x.now) s (chunks k n xs)
unfolding chunks
chunk_by_chunk zero k xs s size rest least most = λ x j t.
    let e : length xs ≡ length x.now + length (chunks_exact_rest j) = ap length (sym rest ∙ t.1.0) ∙ length-append _ _ in
    omega (arith, t.1.1)
chunk_by_chunk (suc n) k xs s size rest least most = (
  λ j t. omega (arith, t.1.0, ap length rest),
  λ x j t.
      let parts : xs ≡ x.now ++ chunks_exact_rest j = sym rest ∙ t.1.0 in
      let front : length x.now ≡ k = t.1.1 ∙ size in
      let back : chunks_exact_rest j ≡ drop k xs = rw parts (sym (drop_at x.now (chunks_exact_rest j) k front)) in
      let long : length (drop k xs) ≡ length xs - k = length-drop k xs in (
        rw parts (sym (take_at x.now (chunks_exact_rest j) k front)),
        chunk_by_chunk n k (drop k xs) j (t.0 ∙ size) back (omega arith) (omega arith),
      ),
)

pub chunks_lent : (k : ℕ) (xs : List ℕ) (s : ChunksExact ℕ) → 0 < k → chunks_exact_size s ≡ k → chunks_exact_rest s ≡ xs
    → YieldsList (chunks_exact_steps {A = ℕ}) (λ x. x.now) s (chunks k (length xs / k) xs)
chunks_lent k xs s h size rest =
    record { runs = chunk_by_chunk (length xs / k) k xs s size rest (omega (arith, div-add-mod' (length xs) k)) (omega (arith, div-add-mod' (length xs) k, mod-lt (length xs) h)) }

-- ---- a loop over them

-- q chunks are passed
pub record Cut (k : ℕ) (xs : List ℕ) (s : ChunksExact ℕ) (q : ℕ) : Type 0 where
  pub size : chunks_exact_size s ≡ k
  pub rest : chunks_exact_rest s ≡ drop (q * k) xs
  pub most : q ≤ length xs / k

-- chunk q is lent
pub record CutNext (k : ℕ) (xs : List ℕ) (q : ℕ) (x : List ℕ) (t : ChunksExact ℕ) : Type 0 where
  pub whole : length x ≡ k
  pub same : (p : ℕ) → p < k → get_or x p 0 ≡ get_or xs (q * k + p) 0
  pub within : q < length xs / k
  pub after : Cut k xs t (q + 1)

pub cut_next : (k : ℕ) (xs : List ℕ) (s t : ChunksExact ℕ) (q : ℕ) (x : Bor (List ℕ)) → 0 < k → Cut k xs s q → chunks_exact_steps s (Some x) t → CutNext k xs q x.now t
cut_next k xs s t q x h c e =
    let parts : drop (q * k) xs ≡ x.now ++ chunks_exact_rest t = sym c.rest ∙ e.1.0 in
    let front : length x.now ≡ k = e.1.1 ∙ c.size in
    let long : length xs - q * k ≡ k + length (chunks_exact_rest t) = sym (length-drop (q * k) xs) ∙ ap length parts ∙ length-append _ _ ∙ ap (λ (n : ℕ). n + length (chunks_exact_rest t)) front in
    let within : q < length xs / k = (le-div_iff_mul-le h).1 (omega arith) in
    record {
      whole = front;
      same = λ p l. let m : p < length x.now = omega arith in sym (get_or-append x.now (chunks_exact_rest t) 0 p m) ∙ rw (← parts) (get_or-drop (q * k) xs p 0);
      within = within;
      after = record { size = e.0 ∙ c.size; rest = sym (drop_at x.now (chunks_exact_rest t) k front) ∙ rw (← parts) (drop-drop k (q * k) xs ∙ ap (λ (n : ℕ). drop n xs) (omega arith)); most = omega arith };
    }

pub cut_none : (k : ℕ) (xs : List ℕ) (s : ChunksExact ℕ) → chunks_exact_size s ≡ k → chunks_exact_rest s ≡ xs → Cut k xs s 0
cut_none k xs s size rest = record { size = size; rest = rw zero-mul rest; most = omega arith }
