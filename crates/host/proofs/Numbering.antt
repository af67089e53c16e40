-- Laws of a list of numbers put one after another: what is left to put gives what is promised. Assumes nothing.
use mathlib.Core.Path.{◌≡◌, sym, ap, ap₂, ◌∙◌}
use mathlib.Core.List.{List}
use Prim.Native.Nat.{ℕ, suc, ◌+◌, ◌<◌}
use native.Mathlib.Nat.{add-zero}
use native.Mathlib.Numerals.{add-one}
use native.Mathlib.Omega.{arith}
use lib.ListN.{length, get_or, drop}
use lib.Seq.{drop-cons, drop-length}
use Rattle.host.specs.Numbers.{with_number, numbered}

-- the list from number j on, of which i are put
abbrev pub left_to_put : List ℕ → ℕ → List ℕ → ℕ → List ℕ
left_to_put bytes j l i = numbered bytes (j + i) (drop i l)

pub put-start : (bytes : List ℕ) (j : ℕ) (l : List ℕ) → left_to_put bytes j l 0 ≡ numbered bytes j l
put-start bytes j l = ap (λ (m : ℕ). numbered bytes m l) (add-zero j)

pub put_more : (before : List ℕ) (j : ℕ) (l : List ℕ) (i : ℕ) {after : List ℕ} → i < length l
    → after ≡ with_number before (j + i) (get_or l i 0) → left_to_put after j l (i + 1) ≡ left_to_put before j l i
unfolding numbered
put_more before j l i {after} h wrote =
    let next : j + (i + 1) ≡ j + i + 1 = omega arith in
    let rest : List ℕ = drop (suc i) l in
    ap (λ (m : ℕ). numbered after (j + (i + 1)) (drop m l)) (add-one i)
    ∙ ap₂ (λ (b : List ℕ) (m : ℕ). numbered b m rest) wrote next
    ∙ ap (numbered before (j + i)) (sym (drop-cons l i 0 h))

pub put_done : (bytes : List ℕ) (j : ℕ) (l : List ℕ) (i : ℕ) → i ≡ length l → bytes ≡ left_to_put bytes j l i
unfolding numbered
put_done bytes j l i e = sym (ap (numbered bytes (j + i)) (ap (λ (m : ℕ). drop m l) e ∙ drop-length l))
