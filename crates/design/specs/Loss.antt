-- What a shelf has lost (document 01, "The shelf value and the calls"): the one part of it that calls change. Definitions elsewhere ask
-- what stands here, and do not look into a loss.
use Rattle.std.specs.Prelude.{Bool, true, false, ℕ, ltb, eqb}
use Rattle.std.specs.Prelude.{Some, None}
use Rattle.design.specs.declared.Loss.{Loss}
use Rattle.design.specs.declared.Shelf.{Shelf}

-- no disk is lost
unfoldable pub no_loss : Loss
no_loss = record { lost = None }

-- disk d is lost
unfoldable pub disk_loss : ℕ → Loss
disk_loss d = record { lost = Some d }

-- ---- what is asked of a loss

unfoldable pub is_whole : Loss → Bool
is_whole loss = elim loss.lost [ None ↦ true | Some d ↦ false ]

unfoldable pub lost_in : Loss → ℕ → Bool
lost_in loss d = elim loss.lost [ None ↦ false | Some lost ↦ eqb d lost ]

-- the lost disk, if any, is below v
unfoldable pub loss_below : Loss → ℕ → Bool
loss_below loss v = elim loss.lost [ None ↦ true | Some d ↦ ltb d v ]

-- ---- of a shelf

-- disk d is lost
abbrev pub is_lost : Shelf → ℕ → Bool
is_lost h d = lost_in h.loss d

-- the shelf with another loss
abbrev pub with_loss : Shelf → Loss → Shelf
with_loss h loss =
    record { v = h.v; k = h.k; b = h.b; T = h.T; u = h.u; r = h.r; lambda = h.lambda; table = h.table; loss = loss }
