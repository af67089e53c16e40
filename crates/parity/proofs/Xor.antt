-- The exclusive-or of units and of several of them. Assumes nothing.
use mathlib.Core.Path.{◌≡◌, refl, sym, ap, ap₂, ◌∙◌}
use mathlib.Core.Logic.{◌↔◌, ◌≢◌}
use mathlib.Core.Bool.{true, false, true≢false}
use mathlib.Core.List.{List, [], ◌∷◌}
use Prim.Native.Nat.{ℕ, zero, suc, ◌+◌, ◌*◌, ◌/◌, ◌%◌, ◌<◌}
use native.Mathlib.Nat.{suc_inj}
use native.Mathlib.Omega.{arith}
use lib.Arith.{bin_ind}
use lib.Bits.{bit_xor, differ, xor_step, xor_comm, xor_self, xor_shr, xor_mod}
use lib.Dec.{eqb}
use lib.ListN.{length, length-replicate}
use borrow.Author.Tests.{eqb-true, eqb-false}
use Rattle.parity.specs.Units.{zeros, xor_u, xor_sum, is_zero, put}
use Rattle.parity.proofs.Cases.{cases, put_same, put_other}

-- ---- numbers

bit_ind : (P : ℕ → Type 0) → P 0 → P 1 → (x : ℕ) → x < 2 → P x
bit_ind P p q zero h = p
bit_ind P p q (suc zero) h = q
bit_ind P p q (suc (suc x)) h = absurd (omega arith)

-- the bits are three, so the cases eight
bit_assoc : (x y z : ℕ) → x < 2 → y < 2 → z < 2 → differ (bit_xor x y) z ≡ differ x (bit_xor y z)
bit_assoc x y z hx hy hz =
    let P : ℕ → ℕ → ℕ → Type 0 = λ x y z. differ (bit_xor x y) z ≡ differ x (bit_xor y z) in
    let third : (x y : ℕ) → P x y 0 → P x y 1 → P x y z = λ x y p q. bit_ind (P x y) p q z hz in
    bit_ind (λ x. P x y z)
    (bit_ind (λ y. P 0 y z) (third 0 0 refl refl) (third 0 1 refl refl) y hy)
    (bit_ind (λ y. P 1 y z) (third 1 0 refl refl) (third 1 1 refl refl) y hy)
    x hx

xor_assoc : (a b c : ℕ) → bit_xor (bit_xor a b) c ≡ bit_xor a (bit_xor b c)
xor_assoc a = bin_ind (λ (n : ℕ). (b c : ℕ) → bit_xor (bit_xor n b) c ≡ bit_xor n (bit_xor b c)) (λ b c. refl) step a
  where
    step : (n : ℕ) → ((b c : ℕ) → bit_xor (bit_xor (n / 2) b) c ≡ bit_xor (n / 2) (bit_xor b c)) → (b c : ℕ) → bit_xor (bit_xor n b) c ≡ bit_xor n (bit_xor b c)
    step n ih b c =
        xor_step (bit_xor n b) c
        ∙ ap₂ (λ (x y : ℕ). x * 2 + y)
        (ap (λ (x : ℕ). bit_xor x (c / 2)) (xor_shr n b 1) ∙ ih (b / 2) (c / 2) ∙ ap (bit_xor (n / 2)) (sym (xor_shr b c 1)))
        (ap (λ (x : ℕ). differ x (c % 2)) (xor_mod n b 1)
        ∙ bit_assoc (n % 2) (b % 2) (c % 2) (omega arith) (omega arith) (omega arith)
        ∙ ap (differ (n % 2)) (sym (xor_mod b c 1)))
        ∙ sym (xor_step n (bit_xor b c))

-- ---- two units

pub xor_u_comm : (x y : List ℕ) → xor_u x y ≡ xor_u y x
unfolding xor_u
xor_u_comm [] [] = refl
xor_u_comm [] (b ∷ y) = refl
xor_u_comm (a ∷ x) [] = refl
xor_u_comm (a ∷ x) (b ∷ y) = ap₂ ◌∷◌ (xor_comm a b) (xor_u_comm x y)

pub xor_u_assoc : (x y z : List ℕ) → xor_u (xor_u x y) z ≡ xor_u x (xor_u y z)
unfolding xor_u
xor_u_assoc [] y z = refl
xor_u_assoc (a ∷ x) [] z = refl
xor_u_assoc (a ∷ x) (b ∷ y) [] = refl
xor_u_assoc (a ∷ x) (b ∷ y) (c ∷ z) = ap₂ ◌∷◌ (xor_assoc a b c) (xor_u_assoc x y z)

pub xor_u_left_comm : (x y z : List ℕ) → xor_u x (xor_u y z) ≡ xor_u y (xor_u x z)
xor_u_left_comm x y z = sym (xor_u_assoc x y z) ∙ ap (λ (w : List ℕ). xor_u w z) (xor_u_comm x y) ∙ xor_u_assoc y x z

pub xor_u-length : (U : ℕ) (x y : List ℕ) → length x ≡ U → length y ≡ U → length (xor_u x y) ≡ U
unfolding xor_u
xor_u-length U [] y p q = q
xor_u-length U (a ∷ x) [] p q = p
xor_u-length zero (a ∷ x) (b ∷ y) p q = absurd (omega arith)
xor_u-length (suc U) (a ∷ x) (b ∷ y) p q = ap suc (xor_u-length U x y (suc_inj p) (suc_inj q))

pub xor_u-zeros_left : (U : ℕ) (x : List ℕ) → length x ≡ U → xor_u (zeros U) x ≡ x
unfolding xor_u
xor_u-zeros_left zero x p = refl
xor_u-zeros_left (suc U) [] p = absurd (omega arith)
xor_u-zeros_left (suc U) (a ∷ x) p = ap (λ (r : List ℕ). a ∷ r) (xor_u-zeros_left U x (suc_inj p))

pub xor_u-zeros : (U : ℕ) (x : List ℕ) → length x ≡ U → xor_u x (zeros U) ≡ x
xor_u-zeros U x p = xor_u_comm x (zeros U) ∙ xor_u-zeros_left U x p

pub xor_u_self : (x : List ℕ) → xor_u x x ≡ zeros (length x)
unfolding xor_u
xor_u_self [] = refl
xor_u_self (a ∷ x) = ap₂ ◌∷◌ (xor_self a) (xor_u_self x)

pub xor_u_cancel : (x y : List ℕ) → length x ≡ length y → xor_u x (xor_u x y) ≡ y
xor_u_cancel x y e =
    sym (xor_u_assoc x x y) ∙ ap (λ (w : List ℕ). xor_u w y) (xor_u_self x) ∙ xor_u-zeros_left (length x) y (sym e)

-- ---- all zeros

zeros_zero : (n : ℕ) → is_zero (zeros n) ≡ true
unfolding is_zero
zeros_zero zero = refl
zeros_zero (suc n) = zeros_zero n

zero_is : (x : List ℕ) → is_zero x ≡ true → x ≡ zeros (length x)
unfolding is_zero
zero_is [] e = refl
zero_is (a ∷ x) e =
    let more : is_zero x ≡ true → x ≡ zeros (length x) = zero_is x in
    cases (eqb a 0) (λ t. ap₂ ◌∷◌ (eqb-true a 0 t) (more (rw t at e))) (λ t. absurd (true≢false (sym (rw t at e))))

pub zero_exactly : (x : List ℕ) → (is_zero x ≡ true) ↔ (x ≡ zeros (length x))
zero_exactly x = (zero_is x, λ e. ap is_zero e ∙ zeros_zero (length x))

-- ---- several units

module _ (U : ℕ) where
  pub xor_sum_ext : (f g : ℕ → List ℕ) (n : ℕ) → ((i : ℕ) → i < n → f i ≡ g i) → xor_sum U f n ≡ xor_sum U g n
  unfolding xor_sum
  xor_sum_ext f g zero h = refl
  xor_sum_ext f g (suc n) h = ap₂ xor_u (xor_sum_ext f g n (λ i l. h i (omega arith))) (h n (omega arith))

  pub xor_sum-length : (f : ℕ → List ℕ) (n : ℕ) → ((i : ℕ) → i < n → length (f i) ≡ U) → length (xor_sum U f n) ≡ U
  unfolding xor_sum
  xor_sum-length f zero h = length-replicate U 0
  xor_sum-length f (suc n) h = xor_u-length U (xor_sum U f n) (f n) (xor_sum-length f n (λ i l. h i (omega arith))) (h n (omega arith))

  -- a unit past the last makes no difference
  pub xor_sum_past : (f : ℕ → List ℕ) (x : List ℕ) (n : ℕ) → xor_sum U (put f n x) n ≡ xor_sum U f n
  xor_sum_past f x n = xor_sum_ext (put f n x) f n (λ j l. put_other f n x j (omega arith))

  -- one unit is exchanged
  abbrev Exchanged : (ℕ → List ℕ) → ℕ → List ℕ → ℕ → Type 0
  Exchanged f i x n = xor_sum U (put f i x) n ≡ xor_u (xor_sum U f n) (xor_u (f i) x)

  exchanged_next : (f : ℕ → List ℕ) (i : ℕ) (x : List ℕ) (n : ℕ) → i < suc n → length (f i) ≡ length x → (i < n → Exchanged f i x n) → Exchanged f i x (suc n)
  unfolding xor_sum
  exchanged_next f i x n h l earlier = cases (eqb n i) last later
    where
      last : eqb n i ≡ true → Exchanged f i x (suc n)
      last e =
          let p : n ≡ i = eqb-true n i e in
          ap₂ xor_u (xor_sum_ext (put f i x) f n (λ j u. put_other f i x j (omega arith))) (ap (put f i x) p ∙ put_same f i x)
          ∙ ap (xor_u (xor_sum U f n)) (sym (xor_u_cancel (f i) x l))
          ∙ sym (xor_u_assoc (xor_sum U f n) (f i) (xor_u (f i) x))
          ∙ ap (λ (j : ℕ). xor_u (xor_u (xor_sum U f n) (f j)) (xor_u (f i) x)) (sym p)

      later : eqb n i ≡ false → Exchanged f i x (suc n)
      later e =
          let ne : n ≢ i = eqb-false n i e in
          ap₂ xor_u (earlier (omega arith)) (put_other f i x n ne) ∙ simp (xor_u_assoc, xor_u_comm, xor_u_left_comm)

  pub xor_sum-put : (f : ℕ → List ℕ) (i : ℕ) (x : List ℕ) (n : ℕ) → i < n → length (f i) ≡ length x
      → xor_sum U (put f i x) n ≡ xor_u (xor_sum U f n) (xor_u (f i) x)
  xor_sum-put f i x zero h l = absurd (omega arith)
  xor_sum-put f i x (suc n) h l = exchanged_next f i x n h l (λ u. xor_sum-put f i x n u l)

  -- one unit is left out
  pub xor_sum_without : (f : ℕ → List ℕ) (i n : ℕ) → i < n → length (f i) ≡ U → xor_sum U (put f i (zeros U)) n ≡ xor_u (xor_sum U f n) (f i)
  xor_sum_without f i n h l =
      xor_sum-put f i (zeros U) n h (l ∙ sym (length-replicate U 0)) ∙ ap (xor_u (xor_sum U f n)) (xor_u-zeros U (f i) l)

  -- where the exclusive-or is zero, each unit is that of the others
  pub recover : (f : ℕ → List ℕ) (i n : ℕ) → i < n → length (f i) ≡ U → xor_sum U f n ≡ zeros U → xor_sum U (put f i (zeros U)) n ≡ f i
  recover f i n h l e = xor_sum_without f i n h l ∙ ap (λ (w : List ℕ). xor_u w (f i)) e ∙ xor_u-zeros_left U (f i) l

  -- a unit that is that of the others makes the exclusive-or zero
  pub restored_zero : (f : ℕ → List ℕ) (i n : ℕ) → i < n → ((j : ℕ) → j < n → length (f j) ≡ U)
      → xor_sum U (put f i (xor_sum U (put f i (zeros U)) n)) n ≡ zeros U
  restored_zero f i n h l =
      let rest : List ℕ = xor_sum U (put f i (zeros U)) n in
      let e : rest ≡ xor_u (xor_sum U f n) (f i) = xor_sum_without f i n h (l i h) in
      let size : length (xor_sum U f n) ≡ U = xor_sum-length f n l in
      let same : length rest ≡ U = ap length e ∙ xor_u-length U (xor_sum U f n) (f i) size (l i h) in
      xor_sum-put f i rest n h (l i h ∙ sym same)
      ∙ sym (xor_u_assoc (xor_sum U f n) (f i) rest)
      ∙ ap (λ (w : List ℕ). xor_u w rest) (sym e)
      ∙ xor_u_self rest
      ∙ ap zeros same
