-- `host::value::loss_of` meets its contract: 0 is none, any other number the disk below it. Assumes nothing.
use Rattle.std.proofs.Common.{◌≡◌, ◌-◌, ◌<◌, ℕ, zero, suc, refl, ap, ◌∙◌, rules, arith}
use Rattle.design.specs.Loss.{disk_loss}
use Rattle.host.specs.Value.{loss_of}
use Rattle.host.proofs.value.loss_of.Goals as goal

-- of a number that is not 0
loss_disk : (x : ℕ) → (x ≡ 0 → ⊥) → disk_loss (x - 1) ≡ loss_of x
unfolding loss_of
loss_disk zero none = absurd (none refl)
loss_disk (suc d) some = let e : suc d - 1 ≡ d = omega arith in ap disk_loss e

pub returns-then-x-eq0 : goal.returns-then-x-eq0
unfolding loss_of
returns-then-x-eq0 c = (omega arith, c.none.ensures ∙ rw c.if-x-eq0.true)

pub returns : goal.returns
returns c =
    let disk : c.in_ok-disk.disk ≡ c.args.x - 1 = search rules in
    let small : c.in_ok-disk.disk < 256 = search rules in
    (omega arith, c.of.ensures ∙ ap disk_loss disk ∙ loss_disk _ c.if-x-eq0.false)
