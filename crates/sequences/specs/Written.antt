-- The accepted writes at each address, in their order, and the last of them.
use Rattle.std.specs.Prelude.{Bool, cond, List, [], ◌∷◌, ◌++◌, ℕ, eqb}
use Rattle.design.specs.Refusals.{verdict}
use Rattle.design.specs.declared.Shelf.{Shelf}
use Rattle.placement.specs.Layout.{layout_in, stripe_of, j_of}
use Rattle.parity.specs.Units.{zeros, unit_at}
use Rattle.parity.specs.Stripe.{unit_size}
use Rattle.parity.specs.Calls.{by}
use Rattle.sequences.specs.Sequence.{Event, write, write_stripe, lose, rebuild, look, disturb}

-- x, or nothing
abbrev pub only : Bool → List ℕ → List (List ℕ)
only b x = cond b (x ∷ []) []

-- the unit that an event writes at address a, if it is accepted; a stripe write is a write at each address of its stripe
unfoldable pub written_by : Shelf → Event → ℕ → List (List ℕ)
written_by h (write a' unit answer) a = by (verdict answer) (only (eqb a a') unit) []
written_by h (write_stripe s buffer answer) a =
    by (verdict answer) (only (eqb (stripe_of (layout_in h) a) s) (unit_at (unit_size h) buffer (j_of (layout_in h) a))) []
written_by h (lose d answer) a = []
written_by h (rebuild answer) a = []
written_by h (look call) a = []
written_by h disturb a = []

-- the units that the events write at address a, the first one first
unfoldable pub written : Shelf → List Event → ℕ → List (List ℕ)
written h [] a = []
written h (e ∷ events) a = written_by h e a ++ written h events a

-- the last of these units, or x
unfoldable pub last_or : List ℕ → List (List ℕ) → List ℕ
last_or x [] = x
last_or x (y ∷ units) = last_or y units

-- the unit last written at address a, or zeros
unfoldable pub last_written : Shelf → List Event → ℕ → List ℕ
last_written h events a = last_or (zeros (unit_size h)) (written h events a)
