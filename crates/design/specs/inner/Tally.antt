-- What the counters hold while the tuples are tallied: lane e of row d for the disks d and e.
use Rattle.std.specs.Prelude.{◌≡◌, cond, ◌&&◌, List, ℕ, ◌+◌, ◌/◌, ◌<◌, length, get_or}
use Rattle.design.specs.Tuples.{Design, in_table, has, shared}
use Rattle.design.specs.inner.Planes.{bit, row_of, counted}

-- the disk at position p of a tuple
abbrev pub disk_at : List ℕ → ℕ → ℕ
disk_at tuple p = get_or tuple p 0

-- the design whose tuples of k are the disks, one after another; v has no part in its tuples
abbrev pub tuples_of : ℕ → List ℕ → Design
tuples_of k disks = in_table 0 k (length disks / k) disks

-- bit e of the mask tells whether disk e stands in the tuple
abbrev pub MaskOf : (ℕ → ℕ) → ℕ → ℕ → Type 0
MaskOf tuple k mask = (e : ℕ) → bit mask e ≡ cond (has tuple k e) 1 0

-- one more at (d, e) where the tuple has both
abbrev pub AddedTuple : (ℕ → ℕ) → ℕ → List (List ℕ) → List (List ℕ) → Type 0
AddedTuple tuple k counts after =
    (d e : ℕ) → counted (row_of after d) e ≡ counted (row_of counts d) e + cond (has tuple k d && has tuple k e) 1 0

-- the tuples before q that hold both d and e
abbrev pub Tallied : Design → ℕ → List (List ℕ) → Type 0
Tallied D q counts = (d e : ℕ) → d < 64 → counted (row_of counts d) e ≡ shared D q d e
