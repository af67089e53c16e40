-- The tests of number 10 that are on the table.
use Rattle.std.specs.Prelude.{Bool, ◌&&◌, List, ℕ, ◌*◌}
use Rattle.design.specs.Tuples.{in_table, disks_below, none_twice, disks_even, pairs_even}
use Rattle.design.specs.Shelf.{zero_past}

-- zero past b·k, and rules 5, 6, 8 and 9
abbrev pub is_table : List ℕ → ℕ → ℕ → ℕ → ℕ → ℕ → Bool
is_table table v k b r lambda =
    let D = in_table v k b table in
    zero_past table (b * k) && disks_below D && none_twice D && disks_even D r && pairs_even D lambda
