use Rattle.std.proofs.Common.{rules, ◌≡◌, ◌*◌, ◌^◌, ◌%◌, fold, bit_or}
use Rattle.design.proofs.Masks.{mask_all}
use Rattle.design.proofs.tally.mask_of.Goals as goal

pub returns : goal.returns
returns c =
    let e : c.fold.result ≡ fold (λ m d. bit_or m ((1 * 2 ^ d) % 2 ^ 64)) 0 c.args.tuple.now = search rules in
    rw e (mask_all c.args.tuple.now c.requires)
