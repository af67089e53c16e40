-- The promises of the calls on the image (document 01, "The shelf value and the calls"). Each call's rules stand in the order of
-- their numbers; a refusal changes no byte, leaves the caller the shelf that it had, and counts no unit.
use Rattle.std.specs.Prelude.{◌≡◌, Bool, not, cond, ◌&&◌, ◌||◌, List, [], ◌∷◌, ℕ, ◌+◌, ◌-◌, ◌*◌, ◌%◌, leb, ltb, eqb, length, Result, Ok, Err}
use Rattle.design.specs.declared.Shelf.{Shelf}
use Rattle.std.specs.Result.{result_unwrap_or}
use Rattle.design.specs.declared.Refusal.{Refusal}
use Rattle.design.specs.declared.Refusal.TheVariants.{OtherImage, OutOfRange, OtherBuffer, SomeLost, NoneLost}
use Rattle.design.specs.Count.{count, list_from}
use Rattle.design.specs.Refusals.{Rule, Verdict, first_broken, answered}
use Rattle.design.specs.Loss.{no_loss, disk_loss, is_whole, is_lost, with_loss}
use Rattle.design.specs.Tuples.{holds}
use Rattle.design.specs.Shelf.{shelf_rule}
use Rattle.placement.specs.Layout.{layout_in, stripes, addresses, stripe_of, j_of, tuple_of}
use Rattle.parity.specs.declared.Cost.{Cost}
use Rattle.parity.specs.declared.Rebuilding.{Rebuilding}
use Rattle.parity.specs.Units.{zeros, unit_at, xor_u, xor_sum, put}
use Rattle.parity.specs.Stripe.{unit_size, depth, units, image_size, unit_in, stripe_here, index_here, present, cell, others, wrong, patch}

-- ---- the rules; of a buffer they ask its length n alone

abbrev pub image_rule : Shelf → ℕ → Rule
image_rule h n = record { refusal = OtherImage; kept = eqb n (image_size h) }

abbrev pub address_rule : Shelf → ℕ → Rule
address_rule h a = record { refusal = OutOfRange; kept = ltb a (addresses (layout_in h)) }

abbrev pub stripe_rule : Shelf → ℕ → Rule
stripe_rule h s = record { refusal = OutOfRange; kept = ltb s (stripes (layout_in h)) }

abbrev pub disk_rule : Shelf → ℕ → Rule
disk_rule h d = record { refusal = OutOfRange; kept = ltb d h.v }

abbrev pub place_rule : Shelf → ℕ → ℕ → Rule
place_rule h d o = record { refusal = OutOfRange; kept = ltb d h.v && ltb o (depth h) }

-- a buffer of so many units
abbrev pub buffer_rule : Shelf → ℕ → ℕ → Rule
buffer_rule h n count = record { refusal = OtherBuffer; kept = eqb n (count * unit_size h) }

abbrev pub whole_rule : Shelf → Rule
whole_rule h = record { refusal = SomeLost; kept = is_whole h.loss }

abbrev pub present_rule : Shelf → ℕ → Rule
present_rule h n = record { refusal = SomeLost; kept = present h n }

abbrev pub lost_rule : Shelf → Rule
lost_rule h = record { refusal = NoneLost; kept = not (is_whole h.loss) }

-- blank and scrub, of an image of n bytes
unfoldable pub whole_rules : Shelf → ℕ → List Rule
whole_rules h n = shelf_rule h ∷ image_rule h n ∷ whole_rule h ∷ []

-- read, unit write and show address, with a unit buffer of m bytes
unfoldable pub unit_rules : Shelf → ℕ → ℕ → ℕ → List Rule
unit_rules h n a m = shelf_rule h ∷ image_rule h n ∷ address_rule h a ∷ buffer_rule h m 1 ∷ []

-- stripe write, with a stripe buffer of m bytes
unfoldable pub stripe_rules : Shelf → ℕ → ℕ → ℕ → List Rule
stripe_rules h n s m = shelf_rule h ∷ image_rule h n ∷ stripe_rule h s ∷ buffer_rule h m (h.k - 1) ∷ []

unfoldable pub lose_rules : Shelf → ℕ → List Rule
lose_rules h d = shelf_rule h ∷ disk_rule h d ∷ whole_rule h ∷ []

unfoldable pub rebuild_rules : Shelf → ℕ → List Rule
rebuild_rules h n = shelf_rule h ∷ image_rule h n ∷ lost_rule h ∷ []

-- show place
unfoldable pub place_rules : Shelf → ℕ → ℕ → ℕ → List Rule
place_rules h n d o = shelf_rule h ∷ image_rule h n ∷ place_rule h d o ∷ present_rule h (d * depth h + o) ∷ []

-- what an accepted call gives, and what a refused one
unfoldable pub by : {A : Type 0} → Verdict → A → A → A
by (Ok u) x y = x
by (Err r) x y = y

-- so many units read and written
abbrev pub cost : ℕ → ℕ → Cost
cost r w = record { read = r; written = w }

-- the cost of an answer: none where it is refused
abbrev pub cost_of : Result Cost Refusal → Cost
cost_of answer = result_unwrap_or answer (cost 0 0)

-- a call answers so, and leaves new bytes in what is lent to it, or those that stood there, by its verdict
pub record Answered {A : Type 0} (said : A) (v : Verdict) (new old : List ℕ) (answer : A) (after : List ℕ) : Type 0 where
  pub answers : answer ≡ said
  pub leaves : after ≡ by v new old

-- ---- blank

abbrev pub Blanked : Shelf → List ℕ → Verdict → List ℕ → Type 0
Blanked h image = let v : Verdict = first_broken (whole_rules h (length image)) in Answered v v (zeros (length image)) image

-- ---- read

-- unit i of stripe s, from its place or from the other units
unfoldable pub fetched : Shelf → List ℕ → ℕ → ℕ → List ℕ
fetched h image s i = cond (present h (unit_in h s i)) (cell h image s i) (others h image s i)

unfoldable pub read_cost : Shelf → ℕ → ℕ → ℕ
read_cost h s i = cond (present h (unit_in h s i)) 1 (h.k - 1)

abbrev pub costs : Verdict → ℕ → ℕ → Result Cost Refusal
costs v r w = answered v (cost r w)

abbrev pub ReadOut : Shelf → List ℕ → ℕ → List ℕ → Result Cost Refusal → List ℕ → Type 0
ReadOut h image a buffer =
    let v : Verdict = first_broken (unit_rules h (length image) a (length buffer)) in
    let s : ℕ = stripe_of (layout_in h) a in
    let j : ℕ = j_of (layout_in h) a in
    Answered (costs v (read_cost h s j) 0) v (fetched h image s j) buffer

-- ---- unit write

-- the parity after x is written to data j: changed by old and new data, or, where the data disk is lost, of x and the others
unfoldable pub new_parity : Shelf → List ℕ → ℕ → ℕ → List ℕ → List ℕ
new_parity h image s j x =
    cond (present h (unit_in h s j))
    (xor_u (cell h image s (h.k - 1)) (xor_u (cell h image s j) x))
    (xor_sum (unit_size h) (put (cell h image s) j x) (h.k - 1))

unfoldable pub unit_written : Shelf → List ℕ → ℕ → ℕ → List ℕ → List ℕ
unit_written h image s j x =
    patch h image
    (λ n. eqb (stripe_here h n) s && (eqb (index_here h n) j || eqb (index_here h n) (h.k - 1)) && present h n)
    (λ n. cond (eqb (index_here h n) j) x (new_parity h image s j x))

-- units read and written: data and parity present, data lost, parity lost
unfoldable pub write_reads : Shelf → ℕ → ℕ → ℕ
write_reads h s j = cond (present h (unit_in h s j)) (cond (present h (unit_in h s (h.k - 1))) 2 0) (h.k - 2)

unfoldable pub write_writes : Shelf → ℕ → ℕ → ℕ
write_writes h s j = cond (present h (unit_in h s j) && present h (unit_in h s (h.k - 1))) 2 1

abbrev pub Wrote : Shelf → List ℕ → ℕ → List ℕ → Result Cost Refusal → List ℕ → Type 0
Wrote h image a unit =
    let v : Verdict = first_broken (unit_rules h (length image) a (length unit)) in
    let s : ℕ = stripe_of (layout_in h) a in
    let j : ℕ = j_of (layout_in h) a in
    Answered (costs v (write_reads h s j) (write_writes h s j)) v (unit_written h image s j unit) image

-- ---- stripe write

-- the data of the buffer, and their parity
unfoldable pub with_parity : Shelf → List ℕ → ℕ → List ℕ
with_parity h buffer i =
    cond (eqb i (h.k - 1)) (xor_sum (unit_size h) (unit_at (unit_size h) buffer) (h.k - 1)) (unit_at (unit_size h) buffer i)

unfoldable pub stripe_written : Shelf → List ℕ → ℕ → List ℕ → List ℕ
stripe_written h image s buffer =
    patch h image (λ n. eqb (stripe_here h n) s && present h n) (λ n. with_parity h buffer (index_here h n))

unfoldable pub stripe_writes : Shelf → ℕ → ℕ
stripe_writes h s = count (λ i. present h (unit_in h s i)) h.k

abbrev pub WroteStripe : Shelf → List ℕ → ℕ → List ℕ → Result Cost Refusal → List ℕ → Type 0
WroteStripe h image s buffer =
    let v : Verdict = first_broken (stripe_rules h (length image) s (length buffer)) in
    Answered (costs v 0 (stripe_writes h s)) v (stripe_written h image s buffer) image

-- ---- lose

unfoldable pub lost : Shelf → ℕ → Result Shelf Refusal
lost h d = answered (first_broken (lose_rules h d)) (with_loss h (disk_loss d))

-- the shelf after it, of a caller that had this one
abbrev pub losing_of : Shelf → Result Shelf Refusal → Shelf
losing_of h answer = result_unwrap_or answer h

-- ---- rebuild

-- unit n has one of the offsets from `from` up to `to`
abbrev pub between : Shelf → ℕ → ℕ → ℕ → Bool
between h from to n = leb from (n % depth h) && ltb (n % depth h) to

-- restoring these offsets restores it: it is not present
unfoldable pub restores : Shelf → ℕ → ℕ → ℕ → Bool
restores h from to n = between h from to n && not (present h n)

-- each unit that is restored becomes the exclusive-or of the others of its stripe
unfoldable pub restored : Shelf → List ℕ → ℕ → ℕ → List ℕ
restored h image from to = patch h image (restores h from to) (λ n. others h image (stripe_here h n) (index_here h n))

-- a rebuild restores all offsets
abbrev pub rebuilt_image : Shelf → List ℕ → List ℕ
rebuilt_image h image = restored h image 0 (depth h)

-- stripe s has a unit on disk d
abbrev pub on_disk : Shelf → ℕ → ℕ → Bool
on_disk h s d = holds (layout_in h).design (tuple_of (layout_in h) s) d

-- the units read from disk e to restore these offsets: one for each restored unit whose stripe has a unit there; of the lost disk none
unfoldable pub read_from : Shelf → ℕ → ℕ → ℕ → ℕ
read_from h from to e = cond (is_lost h e) 0 (count (λ n. restores h from to n && on_disk h (stripe_here h n) e) (units h))

abbrev pub rebuilding : Verdict → Shelf → Result Rebuilding Refusal
rebuilding v h = answered v (record { shelf = with_loss h no_loss; counts = list_from 0 64 (read_from h 0 (depth h)) })

-- the shelf after it, of a caller that had this one
abbrev pub rebuilt_shelf : Shelf → Result Rebuilding Refusal → Shelf
rebuilt_shelf h (Ok x) = x.shelf
rebuilt_shelf h (Err r) = h

-- the units that an answer counts of each disk: none where it is refused
abbrev pub counts_of : Result Rebuilding Refusal → List ℕ
counts_of (Ok x) = x.counts
counts_of (Err r) = zeros 64

abbrev pub Rebuilt : Shelf → List ℕ → Result Rebuilding Refusal → List ℕ → Type 0
Rebuilt h image =
    let v : Verdict = first_broken (rebuild_rules h (length image)) in
    Answered (rebuilding v h) v (rebuilt_image h image) image

-- ---- scrub

unfoldable pub scrubbed : Shelf → List ℕ → Result ℕ Refusal
scrubbed h image = answered (first_broken (whole_rules h (length image))) (count (wrong h image) (stripes (layout_in h)))

-- the wrong stripes that an answer counts: none where it is refused
abbrev pub wrong_of : Result ℕ Refusal → ℕ
wrong_of answer = result_unwrap_or answer 0

-- ---- show

-- the unit at a place, or the empty part
unfoldable pub place_shown : Shelf → List ℕ → ℕ → ℕ → List ℕ
place_shown h image d o = by (first_broken (place_rules h (length image) d o)) (unit_at (unit_size h) image (d * depth h + o)) []

-- the unit of an address from the image where its disk is present, or the second buffer
unfoldable pub address_shown : Shelf → List ℕ → ℕ → List ℕ → List ℕ
address_shown h image a other =
    let s : ℕ = stripe_of (layout_in h) a in
    let j : ℕ = j_of (layout_in h) a in
    by (first_broken (unit_rules h (length image) a (length other))) (cond (present h (unit_in h s j)) (cell h image s j) other) []
