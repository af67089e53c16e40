-- How an answer of a call below reaches the host: its number is given, and its other numbers go into a lent buffer.
use Rattle.std.specs.Prelude.{◌≡◌, ◌≢◌, List, ℕ, ◌*◌, length}

-- the host is given this of an answer that the call below promises
pub record Told {A : Type 0} (promised given : A → Type 0) : Type 0 where
  pub answer : A
  pub keeps : promised answer
  pub gives : given answer

-- an answer of n numbers: a buffer of another length is number 13 before anything is looked at, and nothing is altered
pub record Into (n : ℕ) (buffer : List ℕ) (r : ℕ) (unaltered answered : Type 0) : Type 0 where
  pub fits : length buffer ≡ 4 * n → answered
  pub other : length buffer ≢ 4 * n → (r ≡ 13) × unaltered
