-- `parity::stripe::Stripes::number` meets its contract. Assumes nothing.
use mathlib.Core.Path.{◌≡◌, ap, ap₂, ◌∙◌}
use Prim.Native.Nat.{ℕ, ◌+◌, ◌*◌, ◌/◌, ◌%◌, ◌^◌, ◌≤◌, ◌<◌}
use native.Mathlib.Nat.{mul-le-mul, mul-le-mul_left, div-add-mod'}
use native.Mathlib.Omega.{arith}
use lib.ListN.{get_or}
use borrow.Author.Tests.{lt-ltb, le-ltb}
use Rattle.parity.proofs.Ready.{Reckoned, reckoned}
use Rattle.parity.proofs.Ranks.{entry_of, entry-lt, numbered}
use Rattle.parity.proofs.stripe.Stripes.number.Goals as goal
use Rattle.parity.proofs.stripe.Stripes.number.Goals.{After-from-disk, Joined-i-k, then-i-k, else-i-k}

-- ---- the entry, once the position is found
abbrev entry : Joined-i-k → ℕ
entry c = let h = c.args.self.now.checked.shelf.now in c.args.s % h.b * h.k + c.if-i-k.position

entry_is : (c : Joined-i-k) → entry c ≡ entry_of c.args.self.now.checked.shelf.now c.args.s c.args.i
entry_is c =
    let h = c.args.self.now.checked.shelf.now in
    ap (◌+◌ (c.args.s % h.b * h.k))
    (elim c.if-i-k.branch [
      | then-i-k w ↦ rw (lt-ltb _ _ w.if-i-k.true) (w.position-is ∙ w.position_of-position.ensures)
      | else-i-k w ↦ rw (le-ltb _ _ w.if-i-k.false) w.position-is
    ])

limits : (c : Joined-i-k) → Reckoned c.args.self.now.checked.shelf.now c.args.s
limits c = reckoned c.args.self.now.checked.shelf.now c.args.self.now.checked.passed c.args.s c.requires.0

entry_lt : (c : Joined-i-k) → entry c < 2048
entry_lt c = rw (entry_is c) (omega (arith, entry-lt c.args.self.now.checked.shelf.now c.args.self.now.checked.passed c.args.s c.args.i c.requires.1, (limits c).entries))

pub overflow_mul-entry : goal.overflow_mul-entry
overflow_mul-entry c = omega (arith, entry_lt c)

pub overflow_add-entry : goal.overflow_add-entry
overflow_add-entry c = omega (arith, entry_lt (goal.at.overflow_add-entry c).Joined-i-k)

pub bounds-shelf-entry : goal.bounds-shelf-entry
bounds-shelf-entry c = entry_lt (goal.at.bounds-shelf-entry c).Joined-i-k

-- ---- the number's two parts, once the disk is found
abbrev Bounds : After-from-disk → Type 0
Bounds c =
    let self = c.args.self.now in
    (c.from-disk.result * self.offsets ≤ 255 * 2 ^ 27) × (c.args.s / self.checked.shelf.now.b * self.checked.shelf.now.r < 2 ^ 27)

bounds : (c : After-from-disk) → Bounds c
bounds c =
    let self = c.args.self.now in
    let w = limits (goal.at.After-from-disk c).Joined-i-k in (
      mul-le-mul {n₂ = 255} {m₂ = 2 ^ 27} (omega arith) (omega (arith, self.deep, w.deep)),
      omega (arith, mul-le-mul_left (c.args.s / self.checked.shelf.now.b) w.often, div-add-mod' c.args.s self.checked.shelf.now.b, w.row),
    )

pub overflow_mul-result : goal.overflow_mul-result
overflow_mul-result c = omega (arith, bounds c)

pub overflow_mul-result-2 : goal.overflow_mul-result-2
overflow_mul-result-2 c = omega (arith, bounds c)

pub offset_bounds-self-entry : goal.offset_bounds-self-entry
offset_bounds-self-entry c = omega (arith, entry_lt (goal.at.offset_bounds-self-entry c).Joined-i-k)

pub bounds-self-entry : goal.bounds-self-entry
bounds-self-entry c = entry_lt (goal.at.bounds-self-entry c).Joined-i-k

pub overflow_add-result : goal.overflow_add-result
overflow_add-result c = omega (arith, bounds (goal.at.overflow_add-result c).After-from-disk)

pub overflow_add-result-2 : goal.overflow_add-result-2
overflow_add-result-2 c = omega (arith, bounds (goal.at.overflow_add-result-2 c).After-from-disk)

pub returns : goal.returns
returns c =
    let self = c.args.self.now in
    let h = self.checked.shelf.now in
    let e = entry_is (goal.at.returns c).Joined-i-k in
    ap₂ (λ (x y : ℕ). x * self.offsets + (c.args.s / h.b * h.r + y))
    (c.from-disk.ensures ∙ ap (λ (z : ℕ). get_or h.table z 0) e)
    (c.from.ensures ∙ ap (λ (z : ℕ). get_or self.ranks z 0) e)
    ∙ rw self.deep (numbered h self.checked.passed c.args.s c.args.i c.requires.1 self.ranks self.ranked)
