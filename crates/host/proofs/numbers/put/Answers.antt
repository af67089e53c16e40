-- `host::numbers::put` meets its contract: the four bytes one after another are those of the definition. Assumes nothing.
use Rattle.std.proofs.Common.{◌≡◌, ◌+◌, ◌*◌, ◌/◌, ◌%◌, ◌≤◌, ℕ, suc, List, [], ◌∷◌, ◌++◌, length, refl, sym, ◌∙◌, arith}
use lib.ListN.{take, drop, set}
use Rattle.std.proofs.lemmas.List.Edits.{sets-eq}
use Rattle.std.proofs.lemmas.Slice.{put_mid-paste}
use Rattle.host.specs.Numbers.{with_number}
use Rattle.host.proofs.numbers.put.Goals as goal

-- four bytes that are set one after another
four_set : (l : List ℕ) (at a b c d : ℕ) → at + 4 ≤ length l
    → set (set (set (set l at a) (at + 1) b) (at + 2) c) (at + 3) d ≡ take at l ++ (a ∷ b ∷ c ∷ d ∷ []) ++ drop (at + 4) l
four_set l at a b c d room =
    let second : at + 1 ≡ suc at = omega arith in
    let third : at + 2 ≡ suc (suc at) = omega arith in
    let fourth : at + 3 ≡ suc (suc (suc at)) = omega arith in
    rw (second, third, fourth) (sets-eq (a ∷ b ∷ c ∷ d ∷ []) l at room)

pub returns : goal.returns
unfolding with_number
returns c =
    let x = c.args.x in
    let four : List ℕ = x / 16777216 % 256 ∷ x / 65536 % 256 ∷ x / 256 % 256 ∷ x % 256 ∷ [] in
    let put : c.copy_from_slice.new.self ≡ four = rw c.to_be_bytes.ensures at c.copy_from_slice.ensures.after in
    put_mid-paste _ _ _ _ four 4 put (omega arith) refl ∙ sym (four_set c.args.bytes.now (4 * c.args.i) _ _ _ _ c.requires)
