-- The root of a whole number n as `root_at` computes it, in whole numbers and over the format: twice the true root lies strictly between
-- the sums of the result and any other value on either side of it. Assumes nothing.
use mathlib.Core.Path.{◌≡◌, sym, ap, ◌∙◌, subst}
use mathlib.Core.Logic.{◌⊎◌, inl, inr}
use mathlib.Core.Bool.{Bool, true, false, not, cond}
use Prim.Native.Nat.{ℕ, zero, suc, ◌+◌, ◌-◌, ◌*◌, ◌/◌, ◌%◌, ◌^◌, ◌≤◌, ◌<◌, zero-le}
use native.Mathlib.Nat.{le_refl, le_trans, le_of_eq, le_of_lt, le_of_suc-le-suc, lt_of_lt_of_le, lt_of_le_of_lt, lt_of_not-le, not-le_of_lt}
use native.Mathlib.Nat.{lt_irrefl, zero-lt-suc, mul-one, mul_comm, mul_assoc, mul-mul-mul_comm, mul-pos, mul-le-mul, mul-le-mul_left}
use native.Mathlib.Nat.{mul-le-mul_right, mul-lt-mul_of_pos_right, lt_of_mul-lt-mul_right, le_of_mul-le-mul_right, add-le-add, add-mul}
use native.Mathlib.Nat.{div-mul-le_self, div-add-mod', mod-lt, le-div_iff_mul-le, suc-mul, mul_left_comm, pow-succ', add_comm, one-mul}
use native.Mathlib.Nat.{le-add_right}
use native.Mathlib.Decide.{dec_le}
use native.Mathlib.Omega.{arith}
use lib.Dec.{T, leb, leb→le, nleb→lt}
use lib.Pow.{pow-add, pow_pos, pow_mono, shl_lt}
use lib.Ieee.{Format, binary32, binary64, prec, emax, low, size}
use lib.Ieee.Digits.{back, size_reaches}
use lib.Ieee.Fits.{kept-lt, two, two-le_pos}
use Rattle.float_laws.specs.Root.{whole_root}
use Rattle.float_laws.proofs.RootFunction.{root_is}

-- ---- the gap on either side of q * 2 ^ k, where q has p digits: no value with p digits lies in it

split_at : (m i k : ℕ) → k ≤ i → m * 2 ^ i ≡ m * 2 ^ (i - k) * 2 ^ k
split_at m i k h = ap (λ (x : ℕ). m * x) (ap (λ (x : ℕ). 2 ^ x) (sym (back i k h)) ∙ pow-add 2 (i - k) k) ∙ sym (mul_assoc m (2 ^ (i - k)) (2 ^ k))

-- with i below k the value is below 2 ^ (p - 1) * 2 ^ k
low_value : (p m i k : ℕ) → 0 < p → m < 2 ^ p → i < k → m * 2 ^ i < 2 ^ (p - 1) * 2 ^ k
low_value p m i k P h l =
    let room : p + i ≤ p - 1 + k = omega arith in
    lt_of_lt_of_le (shl_lt p i h) (le_trans (pow_mono room) (le_of_eq (pow-add 2 (p - 1) k)))

-- q keeps all its digits, or k is 0
abbrev Full : ℕ → ℕ → ℕ → Type 0
Full p q k = (k ≡ 0) ⊎ (2 ^ (p - 1) ≤ q)

no_lower : (p m i q k : ℕ) → 0 < p → m < 2 ^ p → Full p q k → i < k → m * 2 ^ i < q * 2 ^ k
no_lower p m i q k P h (inl z) l = absurd (none i k z l)
  where
    none : (i k : ℕ) → k ≡ 0 → i < k → ⊥
    none i k z l = omega arith
no_lower p m i q k P h (inr g) l = lt_of_lt_of_le (low_value p m i k P h l) (mul-le-mul_right (2 ^ k) g)

gap_above : (p m i q k : ℕ) → 0 < p → m < 2 ^ p → Full p q k → q * 2 ^ k < m * 2 ^ i → suc q * 2 ^ k ≤ m * 2 ^ i
gap_above p m i q k P h g l = go (dec_le k i)
  where
    go : Dec (k ≤ i) → suc q * 2 ^ k ≤ m * 2 ^ i
    go (yes a) =
        let e = split_at m i k a in
        le_trans (mul-le-mul_right (2 ^ k) (lt_of_mul-lt-mul_right (2 ^ k) (subst (λ (x : ℕ). q * 2 ^ k < x) e l))) (le_of_eq (sym e))
    go (no b) = absurd (not-le_of_lt l (le_of_lt (no_lower p m i q k P h g (lt_of_not-le b))))

gap_below : (p m i q k : ℕ) → 0 < p → m < 2 ^ p → Full p q k → m * 2 ^ i < suc q * 2 ^ k → m * 2 ^ i ≤ q * 2 ^ k
gap_below p m i q k P h g l = go (dec_le k i)
  where
    go : Dec (k ≤ i) → m * 2 ^ i ≤ q * 2 ^ k
    go (yes a) =
        let e = split_at m i k a in
        le_trans (le_of_eq e) (mul-le-mul_right (2 ^ k)
        (le_of_suc-le-suc (lt_of_mul-lt-mul_right (2 ^ k) (subst (λ (x : ℕ). x < suc q * 2 ^ k) e l))))
    go (no b) = le_of_lt (no_lower p m i q k P h g (lt_of_not-le b))

-- ---- an odd number times a power of two has no fewer digits by another power

odd_part : (m i o j : ℕ) → m * 2 ^ i ≡ o * 2 ^ j → o % 2 ≡ 1 → (i ≤ j) × (o ≤ m)
odd_part m i o j e h = go (dec_le i j)
  where
    even : (a k : ℕ) → 0 < k → a * 2 ^ k % 2 ≡ 0
    even a zero p = absurd (lt_irrefl 0 p)
    even a (suc k) p = two_of (a * 2 ^ k) (a * 2 ^ suc k) (ap (λ (x : ℕ). a * x) (pow-succ' 2 k) ∙ mul_left_comm a 2 (2 ^ k) ∙ mul_comm 2 (a * 2 ^ k))
      where
        two_of : (x y : ℕ) → y ≡ x * 2 → y % 2 ≡ 0
        two_of x y e = omega arith

    go : Dec (i ≤ j) → (i ≤ j) × (o ≤ m)
    go (yes a) = (
      a,
      le_trans (le_trans (le_of_eq (sym (mul-one o))) (mul-le-mul_left o (pow_pos (j - i))))
          (le_of_mul-le-mul_right (le_of_eq (sym (split_at o j i a) ∙ sym e)) (pow_pos i)),
    )
    go (no b) =
        let l : j < i = lt_of_not-le b in
        let same : m * 2 ^ (i - j) ≡ o = le_antisymm'
        (le_of_mul-le-mul_right (le_of_eq (sym (split_at m i j (le_of_lt l)) ∙ e)) (pow_pos j))
        (le_of_mul-le-mul_right (le_of_eq (sym e ∙ split_at m i j (le_of_lt l))) (pow_pos j)) in
        let z : o % 2 ≡ 0 = ap (λ (x : ℕ). x % 2) (sym same) ∙ even m (i - j) (sub_pos i j l) in
        absurd (differ (o % 2) h z)
      where
        le_antisymm' : {a b : ℕ} → a ≤ b → b ≤ a → a ≡ b
        le_antisymm' {a} {b} x y = omega arith

        sub_pos : (i j : ℕ) → j < i → 0 < i - j
        sub_pos i j l = omega arith

        differ : (a : ℕ) → a ≡ 1 → a ≡ 0 → ⊥
        differ a x y = omega arith

-- ---- the law, of the root of N, which is v smallest values' worth: v has few digits

module _ (f : Format) (m i : ℕ) (some : 0 < m) (few : m < 2 ^ prec f) (fit : m * 2 ^ i < 2 ^ (low f + suc (emax f))) where
  abbrev pub N : ℕ
  N = m * 2 ^ i * 2 ^ low f

  abbrev pub w : ℕ
  w = whole_root (size N) N

  abbrev pub k : ℕ
  k = size w - prec f

  abbrev pub K : ℕ
  K = 2 ^ k

  abbrev pub q : ℕ
  q = w / K

  abbrev pub odd : ℕ
  odd = (q + q + 1) * K * ((q + q + 1) * K)

  -- what the format keeps of the root
  abbrev pub c : ℕ
  c = cond (leb (4 * N) odd) q (suc q)

  P : 0 < prec f
  P = two-le_pos (prec f) (two f)

  N-pos : 0 < N
  N-pos = mul-pos (mul-pos some (pow_pos i)) (pow_pos (low f))

  w_ge : q * K ≤ w
  w_ge = div-mul-le_self w K

  w_lt : w < suc q * K
  w_lt = below_next q K w (w % K) (div-add-mod' w K) (mod-lt w (pow_pos k))
    where
      below_next : (q K w r : ℕ) → q * K + r ≡ w → r < K → w < suc q * K
      below_next q K w r e l = subst (λ (x : ℕ). w < x) (sym (suc-mul q K)) (omega arith)

  at_least : q * K * (q * K) ≤ N
  at_least = le_trans (mul-le-mul w_ge w_ge) (root_is N).at_least

  below : N < suc q * K * (suc q * K)
  below = lt_of_lt_of_le (root_is N).below (mul-le-mul w_lt w_lt)

  full : Full (prec f) q k
  full = go (dec_le (size w) (prec f))
    where
      none : (a b : ℕ) → a ≤ b → a - b ≡ 0
      none a b h = omega arith

      inside : (a b : ℕ) → b < a → 0 < b → b - 1 + (a - b) < a
      inside a b h p = omega arith

      go : Dec (size w ≤ prec f) → Full (prec f) q k
      go (yes a) = inl (none (size w) (prec f) a)
      go (no b) =
          inr ((le-div_iff_mul-le (pow_pos k)).1
          (le_trans (le_of_eq (sym (pow-add 2 (prec f - 1) k))) (size_reaches w (prec f - 1 + k) (inside (size w) (prec f) (lt_of_not-le b) P))))

  q_lt : q < 2 ^ prec f
  q_lt = kept-lt (prec f) w

  q_pos : 0 < q
  q_pos = go full
    where
      one : (w q : ℕ) → w < suc q * 1 → 0 < w → 0 < q
      one w q h p = omega arith

      root_pos : (w : ℕ) → N < suc w * suc w → 0 < w
      root_pos zero h = absurd (not-le_of_lt N-pos (le_of_suc-le-suc h))
      root_pos (suc w) h = zero-lt-suc w

      go : Full (prec f) q k → 0 < q
      go (inl z) = one w q (subst (λ (x : ℕ). w < suc q * 2 ^ x) z w_lt) (root_pos w (root_is N).below)
      go (inr h) = lt_of_lt_of_le (pow_pos (prec f - 1)) h

  -- 4 N is no odd square: its odd part has too few digits
  not_half : 4 * N ≡ odd → ⊥
  not_half e = clash full (odd_part m (2 + (i + low f)) ((q + q + 1) * (q + q + 1)) (k + k) (four ∙ e ∙ squares) (omega arith))
    where
      four : m * 2 ^ (2 + (i + low f)) ≡ 4 * N
      four = ap (λ (x : ℕ). m * x) (pow-add 2 2 (i + low f) ∙ ap (λ (x : ℕ). 4 * x) (pow-add 2 i (low f))) ∙ shuffle m (2 ^ i) (2 ^ low f)
        where
          shuffle : (a b c : ℕ) → a * (4 * (b * c)) ≡ 4 * (a * b * c)
          shuffle a b c = mul_left_comm a 4 (b * c) ∙ ap (λ (x : ℕ). 4 * x) (sym (mul_assoc a b c))

      squares : odd ≡ (q + q + 1) * (q + q + 1) * 2 ^ (k + k)
      squares = mul-mul-mul_comm (q + q + 1) K (q + q + 1) K ∙ ap (λ (x : ℕ). (q + q + 1) * (q + q + 1) * x) (sym (pow-add 2 k k))

      clash : Full (prec f) q k → (2 + (i + low f) ≤ k + k) × ((q + q + 1) * (q + q + 1) ≤ m) → ⊥
      clash (inl z) h = omega (arith, h.0, z)
      clash (inr g) h = not-le_of_lt few (le_trans (le_trans (twice (prec f) P) (more q (2 ^ (prec f - 1)) g)) h.1)
        where
          twice : (p : ℕ) → 0 < p → 2 ^ p ≤ 2 ^ (p - 1) + 2 ^ (p - 1)
          twice p h = le_of_eq (ap (λ (x : ℕ). 2 ^ x) (next p h) ∙ pow-succ' 2 (p - 1) ∙ dbl (2 ^ (p - 1)))
            where
              next : (p : ℕ) → 0 < p → p ≡ suc (p - 1)
              next p h = omega arith

              dbl : (x : ℕ) → 2 * x ≡ x + x
              dbl x = omega arith

          more : (q h : ℕ) → h ≤ q → h + h ≤ (q + q + 1) * (q + q + 1)
          more q h g = omega arith

  -- v is a value below the result, or above it
  abbrev pub Below : ℕ → ℕ → Type 0
  Below c v = v < c * K → (v + c * K) * (v + c * K) < 4 * N

  abbrev pub Above : ℕ → ℕ → Type 0
  Above c v = c * K < v → 4 * N < (v + c * K) * (v + c * K)

  square_lt : (a b : ℕ) → a < b → a * a < b * b
  square_lt a b h = lt_of_le_of_lt (mul-le-mul_left a (le_of_lt h)) (mul-lt-mul_of_pos_right h (lt_of_le_of_lt zero-le h))

  four_of : (a : ℕ) → (a + a) * (a + a) ≡ 4 * (a * a)
  four_of a = omega arith

  odd_of : q * K + suc q * K ≡ (q + q + 1) * K
  odd_of = sym (add-mul q (suc q) K) ∙ ap (λ (x : ℕ). x * K) (one q)
    where
      one : (q : ℕ) → q + suc q ≡ q + q + 1
      one q = omega arith

  -- where q is taken, 4 N is at most the square of q and a half, doubled
  low_below : (v : ℕ) → Below q v
  low_below v l =
      lt_of_lt_of_le (square_lt (v + q * K) (q * K + q * K) (omega arith)) (le_trans (le_of_eq (four_of (q * K))) (mul-le-mul_left 4 at_least))

  low_above : (n j : ℕ) → n < 2 ^ prec f → 4 * N ≤ odd → Above q (n * 2 ^ j)
  low_above n j h t l =
      lt_of_lt_of_le (lt_of_le_of_ne t not_half)
      (mul-le-mul (wide (gap_above (prec f) n j q k P h full l)) (wide (gap_above (prec f) n j q k P h full l)))
    where
      lt_of_le_of_ne : {a b : ℕ} → a ≤ b → (a ≡ b → ⊥) → a < b
      lt_of_le_of_ne {a} {b} x y = omega arith

      wide : suc q * K ≤ n * 2 ^ j → (q + q + 1) * K ≤ n * 2 ^ j + q * K
      wide g = le_trans (le_of_eq (sym odd_of)) (le_trans (le_of_eq (add_comm (q * K) (suc q * K))) (add-le-add g (le_refl (q * K))))

  high_below : (n j : ℕ) → n < 2 ^ prec f → odd < 4 * N → Below (suc q) (n * 2 ^ j)
  high_below n j h t l =
      let s : n * 2 ^ j + suc q * K ≤ (q + q + 1) * K = le_trans
      (add-le-add (gap_below (prec f) n j q k P h full l) (le_refl (suc q * K))) (le_of_eq odd_of) in
      lt_of_le_of_lt (mul-le-mul s s) t

  high_above : (v : ℕ) → Above (suc q) v
  high_above v l =
      lt_of_lt_of_le (mul_four below) (le_trans (le_of_eq (sym (four_of (suc q * K))))
      (le_of_lt (square_lt (suc q * K + suc q * K) (v + suc q * K) (omega arith))))
    where
      mul_four : {a b : ℕ} → a < b → 4 * a < 4 * b
      mul_four {a} {b} h = omega arith

  -- every other value n * 2 ^ j
  pub strict : (n j : ℕ) → n < 2 ^ prec f → Below c (n * 2 ^ j) × Above c (n * 2 ^ j)
  strict n j h = go (leb (4 * N) odd) (leb→le (4 * N) odd) (nleb→lt (4 * N) odd)
    where
      go : (b : Bool) → (T b → 4 * N ≤ odd) → (T (not b) → odd < 4 * N) → Below (cond b q (suc q)) (n * 2 ^ j) × Above (cond b q (suc q)) (n * 2 ^ j)
      go true t u = (low_below (n * 2 ^ j), low_above n j h (t tt))
      go false t u = (high_below n j h (u tt), high_above (n * 2 ^ j))

  -- the result is above zero, and far below the infinity
  pub c_pos : 0 < c
  c_pos = go (leb (4 * N) odd)
    where
      go : (b : Bool) → 0 < cond b q (suc q)
      go true = q_pos
      go false = zero-lt-suc q

  pub c_under : c * K < 2 ^ (low f + suc (emax f))
  c_under =
      lt_of_le_of_lt (go (leb (4 * N) odd))
      (lt_of_lt_of_le (twice (2 ^ (low f + emax f)) w_small)
      (le_of_eq (sym (pow-add 2 1 (low f + emax f)) ∙ ap (λ (x : ℕ). 2 ^ x) (next (low f) (emax f)))))
    where
      twice : (b : ℕ) → w < b → w + w < 2 * b
      twice b h = omega arith

      next : (a b : ℕ) → 1 + (a + b) ≡ a + suc b
      next a b = omega arith

      both : q * K ≤ w → suc q * K ≤ w + w
      both h = le_trans (le_of_eq (suc-mul q K)) (add-le-add h (le_trans (le_trans (le_of_eq (sym (one-mul K))) (mul-le-mul_right K q_pos)) h))

      go : (b : Bool) → cond b q (suc q) * K ≤ w + w
      go true = le_trans w_ge (le-add_right w w)
      go false = both w_ge

      square : N < 2 ^ (low f + emax f) * 2 ^ (low f + emax f)
      square =
          lt_of_lt_of_le (mul-lt-mul_of_pos_right fit (pow_pos (low f)))
          (le_trans (le_of_eq (sym (pow-add 2 (low f + suc (emax f)) (low f))))
          (le_trans (pow_mono (far f)) (le_of_eq (pow-add 2 (low f + emax f) (low f + emax f)))))
        where
          far : (f : Format) → low f + suc (emax f) + low f ≤ low f + emax f + (low f + emax f)
          far binary32 = omega arith
          far binary64 = omega arith

      w_small : w < 2 ^ (low f + emax f)
      w_small = lt_of_not-le (λ (g : 2 ^ (low f + emax f) ≤ w). not-le_of_lt square (le_trans (mul-le-mul g g) (root_is N).at_least))
