-- A shelf value that is put into bytes is read from them again. Assumes nothing.
use mathlib.Core.Path.{◌≡◌, refl, sym, ap, ◌∙◌}
use mathlib.Core.Bool.{true, ◌&&◌}
use mathlib.Core.List.{List}
use Prim.Native.Nat.{ℕ, ◌+◌, ◌*◌, ◌≤◌, ◌<◌}
use native.Mathlib.Nat.{zero-add, mul-le-mul_left}
use native.Mathlib.Numerals.{add-one}
use native.Mathlib.Omega.{arith}
use borrow.Author.Tests.{ltb-true}
use lib.ListN.{length, get_or, take, drop, length-append}
use lib.Seq.{drop_at, length-take-le}
use Rattle.std.specs.Prelude.{Some, None, Option}
use Rattle.design.specs.declared.Loss.{Loss}
use Rattle.design.specs.declared.Shelf.{Shelf}
use Rattle.design.specs.Tuples.{holds, shared}
use Rattle.design.specs.Loss.{no_loss, disk_loss, loss_below}
use Rattle.design.specs.Shelf.{design_in, is_shelf}
use Rattle.design.proofs.Counting.{count-le}
use Rattle.design.proofs.ShelfTests.{shelf_parts}
use Rattle.placement.proofs.Bounds.{often_most}
use Rattle.host.specs.Numbers.{number_at, numbered}
use Rattle.host.specs.Value.{loss_number, loss_of, shelf_in, numbers_in, with_shelf}
use Rattle.host.proofs.Holding.{held-shelf}
use Rattle.host.proofs.NumbersBack.{Fit, length-numbered, numbered-at, number_front}

-- ---- the numbers of a shelf fit four bytes each

-- a pair of disks stands in no more tuples than there are
paired_most : (h : Shelf) → is_shelf h ≡ true → h.lambda ≤ h.b
unfolding shared
paired_most h e =
    let w = shelf_parts h e in
    omega (arith, w.paired 1 0 (omega (arith, w.limits.v_least)) (omega arith), count-le (λ q. holds (design_in h) q 1 && holds (design_in h) q 0) h.b)

loss_most : (loss : Loss) (v : ℕ) → loss_below loss v ≡ true → v ≤ 64 → loss_number loss ≤ 64
unfolding loss_below loss_number
loss_most loss v = by loss.lost refl
  where
    by : (x : Option ℕ) → loss.lost ≡ x → loss_below loss v ≡ true → v ≤ 64 → loss_number loss ≤ 64
    by None p below l = rw (p, loss_number) (omega arith)
    by (Some d) p below l = rw (p, loss_number) (omega (arith, ltb-true d v (rw (p, loss_below) at below)))

loss_back : (loss : Loss) → loss_of (loss_number loss) ≡ loss
unfolding loss_of loss_number no_loss disk_loss
loss_back loss = by loss.lost refl
  where
    by : (x : Option ℕ) → loss.lost ≡ x → loss_of (loss_number loss) ≡ loss
    by None p = let n : loss_number loss ≡ 0 = rw (p, loss_number) in ap loss_of n ∙ ap (λ (x : Option ℕ). record { lost = x }) (sym p)
    by (Some d) p = let n : loss_number loss ≡ d + 1 = rw (p, loss_number) in ap loss_of (n ∙ add-one d) ∙ ap (λ (x : Option ℕ). record { lost = x }) (sym p)

module _ (h : Shelf) (ok : is_shelf h ≡ true) where
  numbers_fit : Fit (numbers_in h)
  unfolding numbers_in Fit
  numbers_fit =
      let w = shelf_parts h ok in
      let l = w.limits in
      let few : h.b * 2 ≤ h.b * h.k = mul-le-mul_left h.b l.k_least in
      let lost = loss_most h.loss h.v w.loss l.v_most in
      (omega arith, (omega arith, (omega arith, (omega arith, (omega arith, (omega (arith, often_most h ok), (omega (arith, paired_most h ok), (omega arith, tt))))))))

  module _ (whole : length h.table ≡ 2048) (bytes : List ℕ) (room : length bytes ≡ 2080) where
    abbrev put : List ℕ
    put = numbered bytes 0 (numbers_in h)

    put-length : length put ≡ 2080
    put-length = length-numbered bytes 0 (numbers_in h) ∙ room

    number_is : (j : ℕ) → j < 8 → get_or (numbers_in h) j 0 ≡ number_at (with_shelf bytes h) j
    unfolding with_shelf numbers_in
    number_is j l =
        sym (number_front 32 put h.table j (omega (arith, put-length)) (omega arith)
        ∙ ap (number_at put) (sym (zero-add j)) ∙ numbered-at bytes 0 (numbers_in h) j numbers_fit (omega arith) (omega arith))

    value_is_long : length (with_shelf bytes h) ≡ 2080
    unfolding with_shelf
    value_is_long = omega (arith, length-append (take 32 put) h.table, length-take-le 32 put (omega (arith, put-length)))

    table_is : h.table ≡ drop 32 (with_shelf bytes h)
    unfolding with_shelf
    table_is = sym (drop_at (take 32 put) h.table 32 (length-take-le 32 put (omega (arith, put-length))))

    loss_is : loss_number h.loss ≡ number_at (with_shelf bytes h) 7
    unfolding numbers_in
    loss_is = number_is 7 (omega arith)

    -- a shelf that is put is read again
    pub put_back : shelf_in (with_shelf bytes h) ≡ h
    unfolding numbers_in
    put_back =
        let w = shelf_parts h ok in
        let small : number_at (with_shelf bytes h) 7 ≤ 256 = omega (arith, loss_is, loss_most h.loss h.v w.loss w.limits.v_most) in
        sym
        (held-shelf (with_shelf bytes h) value_is_long small (number_is 0 (omega arith)) (number_is 1 (omega arith)) (number_is 2 (omega arith)) (number_is 3 (omega arith))
        (number_is 4 (omega arith)) (number_is 5 (omega arith)) (number_is 6 (omega arith)) table_is
        (sym (loss_back h.loss) ∙ ap loss_of loss_is))
