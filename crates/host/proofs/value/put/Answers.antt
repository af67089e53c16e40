-- `host::value::put` meets its contract: the numbers, and the table after them. Assumes nothing.
use Rattle.std.proofs.Common.{◌≡◌, ◌+◌, ◌-◌, ◌≤◌, ℕ, List, ◌++◌, length, ap₂, ◌∙◌, arith, append-nil}
use lib.ListN.{take, drop}
use borrow.Rule.Slice.PartMut.{put_mid}
use Rattle.std.proofs.lemmas.List.{drop_all, length-drop}
use Rattle.host.specs.Value.{numbers_in, with_shelf}
use Rattle.host.proofs.value.put.Goals as goal

-- a list that is written from a to its end
end_put : (a k : ℕ) (l new : List ℕ) → length l ≤ a + k → put_mid a k l new ≡ take a l ++ new
end_put a k l new past = rw (drop_all k (drop a l) (omega (arith, length-drop a l)), append-nil new)

pub returns : goal.returns
unfolding with_shelf numbers_in
returns c =
    let put = c.put_all.new.bytes in
    rw (← c.loss_number.ensures)
    (end_put 32 (length put - 32) put c.copy_from_slice.new.self (omega arith)
    ∙ ap₂ (λ (l t : List ℕ). take 32 l ++ t) c.put_all.ensures c.copy_from_slice.ensures.after)
