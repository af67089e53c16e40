-- Document 01, "Where a unit stands": the place of each position of a stripe, and which position stands at a place. A layout is
-- any design, with r and T; a shelf's is read off its table.
use Rattle.std.specs.Prelude.{ℕ, ◌+◌, ◌-◌, ◌*◌, ◌/◌, ◌%◌, ◌<◌, eqb}
use Rattle.design.specs.declared.Shelf.{Shelf}
use Rattle.placement.specs.declared.unchecked.Split.{Split}
use Rattle.placement.specs.declared.unchecked.Place.{Place}
use Rattle.design.specs.Count.{nth}
use Rattle.design.specs.Tuples.{Design, holds, before}
use Rattle.design.specs.Shelf.{design_in}
use Rattle.placement.specs.Slots.{index_of}

-- each disk stands in r tuples of the design, and there are T full tables
pub record Layout : Type 0 where
  pub design : Design
  pub r : ℕ
  pub T : ℕ

abbrev pub layout_in : Shelf → Layout
layout_in h = record { design = design_in h; r = h.r; T = h.T }

-- S stripes
abbrev pub stripes : Layout → ℕ
stripes L = L.T * L.design.b * L.design.k

-- the data units of a stripe. The units of a stripe are named by use: data 0 to data_count - 1 in address order, then the parity,
-- data_count.
abbrev pub data_count : Layout → ℕ
data_count L = L.design.k - 1

-- N addresses, and the units on each disk
abbrev pub addresses : Layout → ℕ
addresses L = stripes L * data_count L

abbrev pub offsets : Layout → ℕ
offsets L = L.T * L.r * L.design.k

-- ---- the steps of document 01, in its order and with its names

abbrev pub stripe_of : Layout → ℕ → ℕ
stripe_of L a = a / data_count L

abbrev pub j_of : Layout → ℕ → ℕ
j_of L a = a % data_count L

-- stripe s of the copies of b tuples of k: its full table t, its copy c, its tuple q and the parity's position p
unfoldable pub split_of : ℕ → ℕ → ℕ → Split
split_of k b s =
    let t : ℕ = s / (b * k) in
    let w : ℕ = s % (b * k) in
    let c : ℕ = w / b in
    let q : ℕ = w % b in
    let p : ℕ = k - 1 - c in
    record { full_table = t; copy = c; tuple = q; parity = p }

-- stripe s of a layout
abbrev pub stripe_split : Layout → ℕ → Split
stripe_split L s = split_of L.design.k L.design.b s

abbrev pub full_table_of : Layout → ℕ → ℕ
full_table_of L s = (stripe_split L s).full_table

abbrev pub copy_of : Layout → ℕ → ℕ
copy_of L s = (stripe_split L s).copy

abbrev pub tuple_of : Layout → ℕ → ℕ
tuple_of L s = (stripe_split L s).tuple

abbrev pub parity_of : Layout → ℕ → ℕ
parity_of L s = (stripe_split L s).parity

-- a split of a stripe below S has these
pub record SplitIn (L : Layout) (at : Split) : Type 0 where
  pub full_table-lt : at.full_table < L.T
  pub copy : at.copy < L.design.k
  pub tuple : at.tuple < L.design.b

-- ---- the place of position p of a stripe with this split

abbrev pub disk_in : Layout → Split → ℕ → ℕ
disk_in L at p = L.design.disk at.tuple p

abbrev pub offset_in : Layout → Split → ℕ → ℕ
offset_in L at p = at.full_table * L.r * L.design.k + at.copy * L.r + before L.design at.tuple (disk_in L at p)

unfoldable pub place_in : Layout → Split → ℕ → Place
place_in L at p = record { disk = disk_in L at p; offset = offset_in L at p }

-- of position p of stripe s

abbrev pub disk_of : Layout → ℕ → ℕ → ℕ
disk_of L s p = disk_in L (stripe_split L s) p

unfoldable pub offset_of : Layout → ℕ → ℕ → ℕ
offset_of L s p = offset_in L (stripe_split L s) p

unfoldable pub place_of : Layout → ℕ → ℕ → Place
place_of L s p = record { disk = disk_of L s p; offset = offset_of L s p }

-- ---- what stands at offset o of disk d

-- its tuple is the (o mod r)-th that holds d
unfoldable pub tuple_at : Layout → ℕ → ℕ → ℕ
tuple_at L d o = nth (λ q. holds L.design q d) L.design.b (o % L.r)

unfoldable pub stripe_at : Layout → ℕ → ℕ → ℕ
stripe_at L d o = o / L.r * L.design.b + tuple_at L d o

unfoldable pub position_at : Layout → ℕ → ℕ → ℕ
position_at L d o = nth (λ p. eqb (L.design.disk (tuple_at L d o) p) d) L.design.k 0

-- the address of the data at position p of stripe s
abbrev pub address_of : Layout → ℕ → ℕ → ℕ
address_of L s p = s * data_count L + index_of (parity_of L s) p
