-- The units that a rebuild takes for one copy of the design.
use Rattle.std.specs.Prelude.{Bool, ◌&&◌, ℕ, eqb}
use Rattle.design.specs.declared.Shelf.{Shelf}
use Rattle.placement.specs.Layout.{layout_in, full_table_of, copy_of}
use Rattle.parity.specs.Stripe.{disk_at, stripe_here}
use Rattle.parity.specs.Calls.{on_disk}

-- unit n is on disk e, its stripe is in copy c of full table t, and has a unit on the lost disk d
unfoldable pub taken_for : Shelf → ℕ → ℕ → ℕ → ℕ → ℕ → Bool
taken_for h t c d e n =
    eqb (disk_at h n) e
    && (eqb (full_table_of (layout_in h) (stripe_here h n)) t && eqb (copy_of (layout_in h) (stripe_here h n)) c && on_disk h (stripe_here h n) d)
