-- The shelf value as 2,080 bytes that the host keeps: the numbers v k b T u r lambda, and the lost disk plus one or 0 where none
-- is; then the table. Any other bytes stand for the empty shelf, which is none (number 10).
use Rattle.std.specs.Prelude.{Bool, cond, ◌&&◌, List, [], ◌∷◌, ◌++◌, ℕ, zero, suc, ◌+◌, leb, eqb, length, take, drop, Result, Ok, Err}
use Rattle.std.specs.Prelude.{Some, None}
use Rattle.design.specs.declared.Refusal.{Refusal}
use Rattle.design.specs.declared.Loss.{Loss}
use Rattle.design.specs.declared.Shelf.{Shelf}
use Rattle.design.specs.Loss.{no_loss, disk_loss}
use Rattle.design.specs.Sheet.{empty_shelf}
use Rattle.host.specs.Numbers.{number_at, numbered}

-- the loss as one number, and back
unfoldable pub loss_number : Loss → ℕ
loss_number loss = elim loss.lost [ None ↦ 0 | Some d ↦ d + 1 ]

unfoldable pub loss_of : ℕ → Loss
loss_of zero = no_loss
loss_of (suc d) = disk_loss d

unfoldable pub is_value : List ℕ → Bool
is_value bytes = eqb (length bytes) 2080 && leb (number_at bytes 7) 256

unfoldable pub shelf_in : List ℕ → Shelf
shelf_in bytes =
    cond (is_value bytes)
    record {
      v = number_at bytes 0;
      k = number_at bytes 1;
      b = number_at bytes 2;
      T = number_at bytes 3;
      u = number_at bytes 4;
      r = number_at bytes 5;
      lambda = number_at bytes 6;
      table = drop 32 bytes;
      loss = loss_of (number_at bytes 7);
    }
    empty_shelf

unfoldable pub numbers_in : Shelf → List ℕ
numbers_in h = h.v ∷ h.k ∷ h.b ∷ h.T ∷ h.u ∷ h.r ∷ h.lambda ∷ loss_number h.loss ∷ []

-- the bytes with the value of h
unfoldable pub with_shelf : List ℕ → Shelf → List ℕ
with_shelf bytes h = take 32 (numbered bytes 0 (numbers_in h)) ++ h.table

-- the shelf of an accepted call is put into them; a refusal leaves them
unfoldable pub shelf_into : Result Shelf Refusal → List ℕ → List ℕ
shelf_into (Ok h) bytes = with_shelf bytes h
shelf_into (Err x) bytes = bytes
