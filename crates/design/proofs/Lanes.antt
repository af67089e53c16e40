-- Laws of lanes: what an exchange of one word changes, and the number that a lane holds. Assumes nothing.
use mathlib.Core.Path.{◌≡◌, refl, sym, ap, ap₂, ◌∙◌}
use mathlib.Core.Logic.{◌⊎◌, inl, inr, ◌≢◌}
use mathlib.Core.Bool.{true, false}
use Prim.Native.Nat.{ℕ, zero, suc, ◌+◌, ◌*◌, ◌/◌, ◌%◌, ◌^◌, ◌≤◌, ◌<◌}
use native.Mathlib.Nat.{mul_comm, pow-suc, mul-le-mul_left}
use native.Mathlib.Numerals.{add-one}
use native.Mathlib.Omega.{arith}
use lib.Dec.{eqb}
use lib.Pow.{low, pow_mono, shl_exact}
use lib.Bits.{bit_and}
use borrow.Author.Tests.{eqb-true, eqb-false}
use Rattle.design.specs.inner.Planes.{bit, lane}
use Rattle.design.proofs.Counting.{decided}
use Rattle.design.proofs.Bits.{bit-lt, bit_zero, bit_low, bit_high, bit_code, bits_same}

pub lane_ext : (f g : ℕ → ℕ) (n e : ℕ) → ((i : ℕ) → i < n → f i ≡ g i) → lane f n e ≡ lane g n e
unfolding lane
lane_ext f g zero e h = refl
lane_ext f g (suc n) e h = ap₂ (λ (x y : ℕ). x + 2 ^ n * bit y e) (lane_ext f g n e (λ i l. h i (omega arith))) (h n (omega arith))

-- all words are zero
pub lane_none : (f : ℕ → ℕ) (n e : ℕ) → ((i : ℕ) → i < n → f i ≡ 0) → lane f n e ≡ 0
unfolding lane
lane_none f zero e h = refl
lane_none f (suc n) e h =
    let z : bit (f n) e ≡ 0 = ap (λ (x : ℕ). bit x e) (h n (omega arith)) ∙ bit_zero e in
    rw z (omega (arith, lane_none f n e (λ i l. h i (omega arith))))

pub lane-lt : (f : ℕ → ℕ) (n e : ℕ) → lane f n e < 2 ^ n
unfolding lane
lane-lt f zero e = omega arith
lane-lt f (suc n) e =
    let b : bit (f n) e ≤ 1 = omega (arith, bit-lt (f n) e) in
    omega (arith, lane-lt f n e, pow-suc 2 n, mul-le-mul_left (2 ^ n) b)

-- word i is exchanged
pub lane-put : (f g : ℕ → ℕ) (i n e : ℕ) → i < n → ((j : ℕ) → j < n → j ≢ i → g j ≡ f j)
    → lane g n e + 2 ^ i * bit (f i) e ≡ lane f n e + 2 ^ i * bit (g i) e
unfolding lane
lane-put f g i zero e h o = absurd (omega arith)
lane-put f g i (suc n) e h o = go (decided (eqb n i)) (λ l. lane-put f g i n e l (λ j m. o j (omega arith)))
  where
    go : (eqb n i ≡ true) ⊎ (eqb n i ≡ false) → (i < n → lane g n e + 2 ^ i * bit (f i) e ≡ lane f n e + 2 ^ i * bit (g i) e)
        → lane g n e + 2 ^ n * bit (g n) e + 2 ^ i * bit (f i) e ≡ lane f n e + 2 ^ n * bit (f n) e + 2 ^ i * bit (g i) e
    go (inl p) r =
        let q : n ≡ i = eqb-true n i p in
        let s : lane g n e ≡ lane f n e = lane_ext g f n e (λ j l. o j (omega arith) (omega arith)) in
        rw (s, q) (omega arith)
    go (inr p) r =
        let ne : n ≢ i = eqb-false n i p in
        let s : bit (g n) e ≡ bit (f n) e = ap (λ (x : ℕ). bit x e) (o n (omega arith) ne) in
        rw s (omega (arith, r (omega arith)))

-- ---- the number in a lane

-- bit i of the number in a lane stands in word i
pub bit-lane : (f : ℕ → ℕ) (n e i : ℕ) → i < n → bit (lane f n e) i ≡ bit (f i) e
unfolding lane
bit-lane f zero e i h = absurd (omega arith)
bit-lane f (suc n) e i h = go (decided (eqb i n)) (bit-lane f n e i)
  where
    turn : lane f n e + 2 ^ n * bit (f n) e ≡ bit (f n) e * 2 ^ n + lane f n e
    turn = omega arith

    go : (eqb i n ≡ true) ⊎ (eqb i n ≡ false) → (i < n → bit (lane f n e) i ≡ bit (f i) e) → bit (lane f n e + 2 ^ n * bit (f n) e) i ≡ bit (f i) e
    go (inl p) r = rw (turn, eqb-true i n p) (bit_high (bit (f n) e) n (lane-lt f n e) (bit-lt (f n) e))
    go (inr p) r =
        let ne : i ≢ n = eqb-false i n p in
        let l : i < n = omega arith in
        rw turn (sym (bit_low (bit (f n) e * 2 ^ n + lane f n e) n i l) ∙ ap (λ (x : ℕ). bit x i) (low (bit (f n) e) n (lane-lt f n e)) ∙ r l)

-- a lane is x where its words have the bits of x
pub lane_is : (f : ℕ → ℕ) (n e x : ℕ) → x < 2 ^ n → ((i : ℕ) → i < n → bit (f i) e ≡ bit x i) → lane f n e ≡ x
lane_is f n e x h b = bits_same n (lane f n e) x (lane-lt f n e) h (λ i l. bit-lane f n e i l ∙ b i l)

-- ---- the number as the code adds it up

-- `(x >> e & 1) << i`
shifted_code : (x e i : ℕ) → i < 64 → (bit_and (x / 2 ^ e) 1 * 2 ^ i) % 2 ^ 64 ≡ 2 ^ i * bit x e
shifted_code x e i h =
    ap (λ (y : ℕ). (y * 2 ^ i) % 2 ^ 64) (bit_code x e) ∙ shl_exact {a = bit x e} 1 i 64 (bit-lt x e) (omega arith) ∙ mul_comm (bit x e) (2 ^ i)

pub lane_next : (f : ℕ → ℕ) (e i : ℕ) → i < 64 → lane f i e + (bit_and (f i / 2 ^ e) 1 * 2 ^ i) % 2 ^ 64 ≡ lane f (i + 1) e
unfolding lane
lane_next f e i h = rw add-one (ap (λ (x : ℕ). lane f i e + x) (shifted_code (f i) e i h))

pub lane_small : (f : ℕ → ℕ) (n e m : ℕ) → n ≤ m → lane f n e < 2 ^ m
lane_small f n e m h = omega (arith, lane-lt f n e, pow_mono h)
