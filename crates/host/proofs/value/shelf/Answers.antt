-- `host::value::shelf` meets its contract: the numbers one by one, where the bytes are a value. Assumes nothing.
use Rattle.std.proofs.Common.{◌<◌, ap, ◌∙◌, arith, rules}
use Rattle.std.proofs.lemmas.List.{take_rest}
use Rattle.host.specs.Value.{loss_of}
use Rattle.host.proofs.Holding.{other_length, other_loss, held-shelf}
use Rattle.host.proofs.value.shelf.Goals as goal

pub returns-then-bytes-ne-SIZE : goal.returns-then-bytes-ne-SIZE
returns-then-bytes-ne-SIZE c = c.empty.ensures ∙ other_length _ c.if-bytes-ne-SIZE.true

pub returns-in_default : goal.returns-in_default
returns-in_default c =
    let many : 256 < c.get.result = search rules in
    c.empty-in_default.ensures ∙ other_loss _ (omega (arith, c.get.ensures, many))

pub returns : goal.returns
returns c =
    let lost = c.get.ensures in
    let loss = c.in-Some.ensures in
    held-shelf _ c.if-bytes-ne-SIZE.false (omega (arith, lost, loss.0))
    c.get-2.ensures c.get-3.ensures c.get-4.ensures c.get-5.ensures
    c.get-6.ensures c.get-7.ensures c.get-8.ensures
    (c.copy_from_slice.ensures.after ∙ take_rest c.args.bytes.now 32) (loss.1 ∙ ap loss_of lost)
