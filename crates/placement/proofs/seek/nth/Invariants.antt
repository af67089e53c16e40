use Rattle.std.proofs.Common.{◌≡◌, ◌+◌, ◌==◌, take, count_by}
use Rattle.placement.proofs.seek.nth.Given as goal

-- what is left and the entries passed that are disk d make m
abbrev pub invariant-loop-i : goal.invariant-loop-i
invariant-loop-i l = l.left + count_by (λ entry. entry == l.d) (take l.i l.entries) ≡ l.m
