use Rattle.std.proofs.Common.{rules, ◌≡◌, fold, bit_or}
use Rattle.design.proofs.ShelfTests.{or_all}
use Rattle.design.proofs.rules.all_zero.Goals as goal

pub returns : goal.returns
returns c =
    let e : c.fold.result ≡ fold bit_or 0 c.args.entries.now = search rules in
    rw e (or_all c.args.entries.now)
