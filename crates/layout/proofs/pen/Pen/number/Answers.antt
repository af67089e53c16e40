-- `layout::pen::Pen::number` meets its contract. The loop's invariant: the digits of what is left and the bytes from i on are n's digits and
-- the bytes after them. Assumes nothing.
use mathlib.Core.Path.{◌≡◌, refl, sym, ap, ◌∙◌}
use mathlib.Core.List.{List, [], ◌∷◌, ◌++◌}
use Prim.Native.Nat.{ℕ, ◌+◌, ◌-◌, ◌/◌, ◌%◌, ◌≤◌, ◌<◌}
use native.Mathlib.Omega.{arith}
use lib.ListN.{length, set, drop, length-set}
use lib.Seq.{take-set-le}
use Rattle.layout.specs.Text.{digit, decimal}
use Rattle.layout.proofs.Decimals.{decimal-one, decimal_more, decimal_next, ten_of_two, below_ten}
use Rattle.layout.proofs.Digits.{last_stored, text_before, text_after}
use Rattle.layout.proofs.pen.Pen.number.Goals as goal
use Rattle.layout.proofs.pen.Pen.number.Goals.{After-loop-i}

pub loop-i-init : goal.loop-i-init
loop-i-init c = record { same = refl; at = refl; kept = refl; before = refl; left = omega (arith, c.places.ensures); digits = refl }

pub loop-i-preserved : goal.loop-i-preserved
loop-i-preserved c =
    let l = c.loop-i in
    let inv = l.invariant in
    let at = c.args.self.now.at in
    let out = l.self.out.now in
    let d = digit (l.rest % 10) in
    let ten : 10 ≤ l.rest = ten_of_two l.rest (omega (arith, inv.left, c.loop-i-test.true)) in
    let room : l.i - 1 < length out = omega (arith, inv.kept, l.auto.i, c.loop-i-test.true, c.places.ensures, c.requires.room) in
    let next : l.i - 1 + 1 ≡ l.i = omega (arith, c.loop-i-test.true) in
    record {
      same = inv.same;
      at = inv.at;
      kept = length-set out (l.i - 1) d ∙ inv.kept;
      before = take-set-le at out (l.i - 1) d (omega (arith, c.loop-i-test.true)) ∙ inv.before;
      left = omega (arith, inv.left, decimal_next l.rest ten);
      digits =
          last_stored out (decimal (l.rest / 10)) d (l.i - 1) room
          ∙ ap (λ (j : ℕ). decimal (l.rest / 10) ++ d ∷ [] ++ drop j out) next
          ∙ ap (λ (t : List ℕ). t ++ drop l.i out) (sym (decimal_more l.rest ten))
          ∙ inv.digits;
    }

-- one digit is left
small : (c : After-loop-i) → c.loop-i.rest < 10
small c = below_ten c.loop-i.rest (omega (arith, c.loop-i.invariant.left, c.loop-i-test.false))

pub overflow_cast-self-2 : goal.overflow_cast-self-2
overflow_cast-self-2 c = omega (arith, small c)

pub overflow_add-self-2 : goal.overflow_add-self-2
overflow_add-self-2 c = omega (arith, small c)

-- which has room
room : (c : After-loop-i) → c.args.self.now.at < length c.loop-i.self.out.now
room c =
    let inv = c.loop-i.invariant in
    omega (arith, inv.kept, inv.left, c.loop-i.auto.i, c.places.ensures, c.requires.room, ap length (decimal-one c.loop-i.rest (small c)))

pub bounds-self-self : goal.bounds-self-self
bounds-self-self c = rw c.loop-i.invariant.at (room (goal.at.bounds-self-self c).After-loop-i)

pub returns : goal.returns
returns c =
    let l = c.loop-i in
    let inv = l.invariant in
    let pen = c.args.self.now in
    let d = digit l.rest in
    let out = set l.self.out.now pen.at d in
    let one = decimal-one l.rest (small (goal.at.returns c).After-loop-i) in
    let next : pen.at + 1 ≡ l.i = omega (arith, inv.left, ap length one) in
    let there : drop pen.at out ≡ decimal c.args.n ++ drop (pen.at + c.places.result) pen.out.now =
    last_stored l.self.out.now [] d pen.at (room (goal.at.returns c).After-loop-i)
    ∙ ap (λ (j : ℕ). d ∷ drop j l.self.out.now) next
    ∙ ap (λ (t : List ℕ). t ++ drop l.i l.self.out.now) (sym one)
    ∙ inv.digits
    in
    rw inv.at
    (record {
      same = inv.same;
      moves = omega (arith, c.places.ensures);
      writes =
          text_before pen.out.now out pen.at c.places.result (decimal c.args.n) c.places.ensures there
          ∙ ap (λ (t : List ℕ). t ++ decimal c.args.n) (take-set-le pen.at l.self.out.now pen.at d (omega arith) ∙ inv.before);
      leaves = text_after pen.out.now out pen.at c.places.result (decimal c.args.n) c.places.ensures there;
    })
