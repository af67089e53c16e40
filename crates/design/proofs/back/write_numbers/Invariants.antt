use mathlib.Core.Path.{◌≡◌}
use lib.ListN.{take}
use Rattle.design.specs.Shelf.{packed, numbers_in}
use Rattle.design.proofs.back.write_numbers.Given as goal

abbrev pub invariant-loop-i : goal.invariant-loop-i
invariant-loop-i l = l.sheet ≡ packed l.initial.sheet 48 (numbers_in (take l.i l.disks))
