-- A design: its tuples of disks, what is counted in them, and when it is balanced (document 01, "The sheet"; source 001).
use Rattle.std.specs.Prelude.{◌≡◌, ◌≢◌, Bool, not, cond, ◌&&◌, List, Option, Some, None, ℕ, ◌+◌, ◌*◌, ◌<◌, ltb, eqb, get_or}
use Rattle.design.specs.Count.{count, every, nth}

-- v disks, b tuples of k disks each; `disk q p` stands at position p of tuple q
pub record Design : Type 0 where
  pub v : ℕ
  pub k : ℕ
  pub b : ℕ
  pub disk : ℕ → ℕ → ℕ

-- the design whose tuples stand one after another in a table
abbrev pub in_table : ℕ → ℕ → ℕ → List ℕ → Design
in_table v k b table = record { v = v; k = k; b = b; disk = λ q p. get_or table (q * k + p) 0 }

-- disk d stands at one of the k positions of a tuple
unfoldable pub has : (ℕ → ℕ) → ℕ → ℕ → Bool
has tuple k d = ltb 0 (count (λ p. eqb (tuple p) d) k)

-- tuple q holds disk d
unfoldable pub holds : Design → ℕ → ℕ → Bool
holds D q d = has (D.disk q) D.k d

-- the number of tuples before q that hold disk d, and of those that hold both d and e
unfoldable pub before : Design → ℕ → ℕ → ℕ
before D q d = count (λ q'. holds D q' d) q

unfoldable pub shared : Design → ℕ → ℕ → ℕ → ℕ
shared D q d e = count (λ q'. holds D q' d && holds D q' e) q

-- ---- balanced, in the document's words

abbrev pub Different : (ℕ → ℕ) → ℕ → Type 0
Different tuple k = (i j : ℕ) → i < k → j < k → tuple i ≡ tuple j → i ≡ j

pub record Balanced (D : Design) (r lambda : ℕ) : Type 0 where
  -- each tuple has k different disks
  pub different : (q : ℕ) → q < D.b → Different (D.disk q) D.k
  -- each disk stands in r tuples
  pub often : (d : ℕ) → d < D.v → before D D.b d ≡ r
  -- each pair of disks stands together in lambda tuples
  pub paired : (d e : ℕ) → d < D.v → e < D.v → d ≢ e → shared D D.b d e ≡ lambda

-- ---- the same as tests, in the order of their numbers

-- 5: every disk number is below v
unfoldable pub disks_below : Design → Bool
disks_below D = every D.b (λ q. every D.k (λ p. ltb (D.disk q p) D.v))

-- the disk at position i of a tuple of k stands again at a later position
unfoldable pub again : (ℕ → ℕ) → ℕ → ℕ → Bool
again tuple k i = ltb 0 (count (λ j. ltb i j && eqb (tuple i) (tuple j)) k)

-- the disk of the first such position, or none: "the search .. stops at the first pair found"
unfoldable pub repeated : (ℕ → ℕ) → ℕ → Option ℕ
repeated tuple k = cond (ltb 0 (count (again tuple k) k)) (Some (tuple (nth (again tuple k) k 0))) None

-- 6: no disk stands twice in a tuple
unfoldable pub none_twice : Design → Bool
none_twice D = every D.b (λ q. every D.k (λ i. not (again (D.disk q) D.k i)))

-- 8: every disk stands in r tuples
unfoldable pub disks_even : Design → ℕ → Bool
disks_even D r = every D.v (λ d. eqb (before D D.b d) r)

-- 9: every two disks stand together in lambda tuples
unfoldable pub pairs_even : Design → ℕ → Bool
pairs_even D lambda = every D.v (λ d. every d (λ e. eqb (shared D D.b d e) lambda))
