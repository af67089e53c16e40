-- What is asked of a loss, and how the answers hang together: no disk is lost, or one is. Assumes nothing.
use mathlib.Core.Path.{◌≡◌, refl, sym, ap, ◌∙◌}
use mathlib.Core.Logic.{◌↔◌}
use mathlib.Core.Bool.{true, false, true≢false}
use Prim.Native.Nat.{ℕ, ◌<◌}
use lib.Dec.{ltb, eqb}
use borrow.Author.Tests.{ltb-true, eq-eqb, eqb-true}
use Rattle.std.specs.Prelude.{Some, None, Option}
use Rattle.design.specs.declared.Loss.{Loss}
use Rattle.design.specs.Loss.{no_loss, disk_loss, is_whole, lost_in, loss_below}

-- ---- the two kinds

pub none_whole : is_whole no_loss ≡ true
unfolding is_whole no_loss
none_whole = refl

pub none_below : (v : ℕ) → loss_below no_loss v ≡ true
unfolding loss_below no_loss
none_below v = refl

pub disk_below : (d v : ℕ) → loss_below (disk_loss d) v ≡ ltb d v
unfolding loss_below disk_loss
disk_below d v = refl

pub disk-lost : (d : ℕ) → lost_in (disk_loss d) d ≡ true
unfolding lost_in disk_loss
disk-lost d = eq-eqb d d refl

-- ---- any loss

pub whole_exactly : (loss : Loss) → (is_whole loss ≡ true) ↔ (loss ≡ no_loss)
unfolding is_whole no_loss
whole_exactly loss = (by loss.lost refl, λ e. ap is_whole e ∙ none_whole)
  where
    by : (x : Option ℕ) → loss.lost ≡ x → is_whole loss ≡ true → loss ≡ no_loss
    by None p e = ap (λ (x : Option ℕ). record { lost = x }) p
    by (Some d) p e = absurd (true≢false (sym e ∙ rw (p, is_whole)))

pub whole_unlost : (loss : Loss) → is_whole loss ≡ true → (d : ℕ) → lost_in loss d ≡ false
unfolding lost_in no_loss
whole_unlost loss e d = rw ((whole_exactly loss).0 e)

-- one is lost, and no other
pub some_lost : (loss : Loss) → is_whole loss ≡ false → (d : ℕ) × (lost_in loss d ≡ true)
unfolding is_whole lost_in
some_lost loss = by loss.lost refl
  where
    by : (x : Option ℕ) → loss.lost ≡ x → is_whole loss ≡ false → (d : ℕ) × (lost_in loss d ≡ true)
    by None p e = absurd (true≢false (rw (p, is_whole) at e))
    by (Some d) p e = (d, rw (p, lost_in) (eq-eqb d d refl))

pub lost_unwhole : (loss : Loss) (d : ℕ) → lost_in loss d ≡ true → is_whole loss ≡ false
unfolding is_whole lost_in
lost_unwhole loss d = by loss.lost refl
  where
    by : (x : Option ℕ) → loss.lost ≡ x → lost_in loss d ≡ true → is_whole loss ≡ false
    by None p e = absurd (true≢false (sym e ∙ rw (p, lost_in)))
    by (Some x) p e = rw (p, is_whole)

pub lost_alone : (loss : Loss) (d : ℕ) → lost_in loss d ≡ true → (e : ℕ) → lost_in loss e ≡ eqb e d
unfolding lost_in
lost_alone loss d = by loss.lost refl
  where
    by : (x : Option ℕ) → loss.lost ≡ x → lost_in loss d ≡ true → (e : ℕ) → lost_in loss e ≡ eqb e d
    by None p t e = absurd (true≢false (sym t ∙ rw (p, lost_in)))
    by (Some x) p t e =
        let is : d ≡ x = eqb-true d x (rw (p, lost_in) at t) in
        rw (p, lost_in, is)

pub lost-lt : (loss : Loss) (v d : ℕ) → loss_below loss v ≡ true → lost_in loss d ≡ true → d < v
unfolding loss_below lost_in
lost-lt loss v d = by loss.lost refl
  where
    by : (x : Option ℕ) → loss.lost ≡ x → loss_below loss v ≡ true → lost_in loss d ≡ true → d < v
    by None p b t = absurd (true≢false (sym t ∙ rw (p, lost_in)))
    by (Some x) p b t =
        rw (eqb-true d x (rw (p, lost_in) at t)) (ltb-true x v (rw (p, loss_below) at b))
