-- Laws over a format, on rounding. `round_by`: what `round` gives, by the number k of digits that it drops. `rounds`: the same of M * 2 ^
-- j / 2 ^ L. `shift_closest`: a number shifted down and rounded, as a program does it. Assumes nothing.
use mathlib.Core.Path.{◌≡◌, refl, sym, ap, ◌∙◌, subst}
use mathlib.Core.Logic.{◌⊎◌, inl, inr}
use Prim.Native.Nat.{ℕ, zero, suc, ◌+◌, ◌-◌, ◌*◌, ◌/◌, ◌%◌, ◌^◌, ◌≤◌, ◌<◌, compare, Ordering}
use native.Mathlib.Nat.{le_trans, le_of_eq, le_of_suc-le-suc, le_antisymm, lt_of_lt_of_le, lt_of_not-le, not-le_of_lt, zero-lt-suc, one-mul}
use native.Mathlib.Nat.{mul_assoc, mul-pos, mul-le-mul_right, div-eq_of_lt, div-lt_iff_lt-mul, le-div_iff_mul-le, div-add-mod', mod-lt}
use native.Mathlib.Nat.{pow-succ', mul-add-div_right}
use native.Mathlib.Omega.{arith}
use native.Mathlib.Numerals.{one-add}
use mathlib.Core.Bool.{Bool, not}
use lib.Dec.{T, lit<, ltb, eqb, is_le, compare_is_eq, leb→le, nleb→lt, eqb→eq, eqb_refl}
use lib.Arith.{le→nltb, lt_of_le-ne}
use lib.Pow.{pow-add, pow_pos, pow_mono, shl_lt, shl_exact}
use lib.Ieee.{inf, Format, prec, emax, low, size, nearest, odd, units, round}
use lib.Ieee.Digits.{size-lt, size-le}
use lib.Ieee.Fits.{core, round_is, two, two-le_pos}
use lib.Ieee.Bits.{cond_no}
use lib.Ieee.Nearest.{closest, closest_same}

-- ---- how many digits `round` drops

pub size_gt : (n j : ℕ) → 2 ^ j ≤ n → j < size n
size_gt n j h = lt_of_not-le (λ (g : size n ≤ j). not-le_of_lt (lt_of_lt_of_le (size-lt n) (pow_mono g)) h)

pub drop_is : (p n den k : ℕ) → 0 < p → 0 < den → n < 2 ^ (p + k) * den → (k ≡ 0) ⊎ (2 ^ (p - 1 + k) * den ≤ n) → size (n / den) - p ≡ k
drop_is p n den k P D hi lo =
    go (size (n / den)) (size-le (n / den) (p + k) ((div-lt_iff_lt-mul D).1 hi)) lo
    (λ (h : 2 ^ (p - 1 + k) * den ≤ n). size_gt (n / den) (p - 1 + k) ((le-div_iff_mul-le D).1 h))
  where
    at_zero : (z : ℕ) → z ≤ p + k → k ≡ 0 → z - p ≡ k
    at_zero z h e = omega arith

    above : (z : ℕ) → z ≤ p + k → p - 1 + k < z → z - p ≡ k
    above z h g = omega arith

    go : (z : ℕ) → z ≤ p + k → (k ≡ 0) ⊎ (2 ^ (p - 1 + k) * den ≤ n) → (2 ^ (p - 1 + k) * den ≤ n → p - 1 + k < z) → z - p ≡ k
    go z h (inl e) g = at_zero z h e
    go z h (inr l) g = above z h (g l)

pub round_by : (f : Format) (s : Bool) (a c k : ℕ) → 0 < c → a * 2 ^ low f < 2 ^ (prec f + k) * c →
    (k ≡ 0) ⊎ (2 ^ (prec f - 1 + k) * c ≤ a * 2 ^ low f)
    → round f s a c ≡ units f s (closest (a * 2 ^ low f) (c * 2 ^ k)) k
round_by f s a c k C hi lo =
    round_is f s a c ∙ ap (λ (z : ℕ). core f s (a * 2 ^ low f) c z) (drop_is (prec f) (a * 2 ^ low f) c k (two-le_pos (prec f) (two f)) C hi lo)

pub units_over : (f : Format) (s : Bool) (q k : ℕ) → 2 ^ (low f + suc (emax f)) ≤ q * 2 ^ k → units f s q k ≡ inf s
unfolding units
units_over f s q k h =
    cond_no (ltb (q * 2 ^ k) (2 ^ (low f + suc (emax f)))) (odd (suc (prec f)) s q k (low f)) (inf s)
    (le→nltb (q * 2 ^ k) (2 ^ (low f + suc (emax f))) h)

-- ---- M * 2 ^ j / 2 ^ L rounded: the last t digits of M are dropped

pub rounds : (f : Format) (s : Bool) (M j L k t : ℕ) → j + low f + t ≡ L + k → M < 2 ^ (prec f + t) →
    (k ≡ 0) ⊎ (2 ^ (prec f - 1 + t) ≤ M) → round f s (M * 2 ^ j) (2 ^ L) ≡ units f s (closest M (2 ^ t)) k
rounds f s M j L k t e hi lo =
    let l = low f in
    let is : M * 2 ^ j * 2 ^ l ≡ M * 2 ^ (j + l) = mul_assoc M (2 ^ j) (2 ^ l) ∙ ap (λ (x : ℕ). M * x) (sym (pow-add 2 j l)) in
    let sum : (p : ℕ) → 2 ^ (p + t + (j + l)) ≡ 2 ^ (p + k) * 2 ^ L = λ p. ap (λ (x : ℕ). 2 ^ x) (move p t (j + l) L k e) ∙ pow-add 2 (p + k) L in
    round_by f s (M * 2 ^ j) (2 ^ L) k (pow_pos L)
    (subst (λ (x : ℕ). x < 2 ^ (prec f + k) * 2 ^ L) (sym is)
    (subst (λ (x : ℕ). M * 2 ^ (j + l) < x) (sum (prec f)) (shl_lt (prec f + t) (j + l) hi)))
    (lower lo (λ (g : 2 ^ (prec f - 1 + t) ≤ M). le_trans
    (le_of_eq (sym (sum (prec f - 1)) ∙ pow-add 2 (prec f - 1 + t) (j + l))) (le_trans (mul-le-mul_right (2 ^ (j + l)) g) (le_of_eq (sym is)))))
    ∙ ap (λ (x : ℕ). units f s x k)
    (closest_same (M * 2 ^ j * 2 ^ l) (2 ^ L * 2 ^ k) M (2 ^ t) (mul-pos (pow_pos L) (pow_pos k)) (pow_pos t)
    (ap (λ (x : ℕ). x * 2 ^ t) is ∙ mul_assoc M (2 ^ (j + l)) (2 ^ t)
    ∙ ap (λ (x : ℕ). M * x) (sym (pow-add 2 (j + l) t) ∙ ap (λ (x : ℕ). 2 ^ x) e ∙ pow-add 2 L k)))
  where
    move : (p t a L k : ℕ) → a + t ≡ L + k → p + t + a ≡ p + k + L
    move p t a L k e = omega arith

    lower : {A B : Type 0} → (k ≡ 0) ⊎ A → (A → B) → (k ≡ 0) ⊎ B
    lower (inl e) g = inl e
    lower (inr a) g = inr (g a)

-- ---- a number shifted down and rounded, as a program does it

abbrev pub Cmp : Ordering → ℕ → ℕ → Type 0
Cmp Ordering.lt a b = a < b
Cmp Ordering.eq a b = a ≡ b
Cmp Ordering.gt a b = b < a

pub cmp : (a b : ℕ) → Cmp (compare a b) a b
cmp a b = go (compare a b) (leb→le a b) (nleb→lt a b) (eqb→eq a b) (λ (e : a ≡ b). subst (λ (x : ℕ). T (eqb a x)) e (eqb_refl a))
  where
    go : (o : Ordering) → (T (is_le o) → a ≤ b) → (T (not (is_le o)) → b < a) → (T (compare_is_eq o) → a ≡ b) → (a ≡ b → T (compare_is_eq o)) → Cmp o a b
    go Ordering.lt h k e n = lt_of_le-ne (h tt) n
    go Ordering.eq h k e n = e tt
    go Ordering.gt h k e n = k tt

div_at_one : (x u : ℕ) → 0 < u → u ≤ x → x < 2 * u → x / u ≡ 1
div_at_one x u U a b =
    le_antisymm (le_of_suc-le-suc ((div-lt_iff_lt-mul U).1 b)) ((le-div_iff_mul-le U).1 (subst (λ (y : ℕ). y ≤ x) (sym (one-mul u)) a))

pub parity : (q : ℕ) → (q % 2 ≡ 0) ⊎ (q % 2 ≡ 1)
parity q = of (q % 2) (mod-lt q (zero-lt-suc 1))
  where
    of : (b : ℕ) → b < 2 → (b ≡ 0) ⊎ (b ≡ 1)
    of zero h = inl refl
    of (suc zero) h = inr refl
    of (suc (suc b)) h = absurd (over b h)
      where
        over : (b : ℕ) → suc (suc b) < 2 → ⊥
        over b h = omega arith

pub shift_closest : (m t : ℕ) → (m + (2 ^ t - 1) + m / 2 ^ suc t % 2) / 2 ^ suc t ≡ closest m (2 ^ suc t)
shift_closest m t =
    let u = 2 ^ suc t in
    let q = m / u in
    let r = m % u in
    ap (λ (x : ℕ). x / u) (regroup m (q * u) r (2 ^ t - 1) (q % 2) (sym (div-add-mod' m u)))
    ∙ mul-add-div_right (pow_pos (suc t)) q (r + (2 ^ t - 1) + q % 2)
    ∙ go q r (2 ^ t) u (compare (r * 2) u) (pow_pos t) (pow_pos (suc t)) (pow-succ' 2 t) (mod-lt m (pow_pos (suc t))) (cmp (r * 2) u)
  where
    regroup : (m w r h b : ℕ) → m ≡ w + r → m + h + b ≡ w + (r + h + b)
    regroup m w r h b e = omega arith

    low_part : (q r h u : ℕ) → 0 < h → u ≡ 2 * h → r * 2 < u → r + (h - 1) + q % 2 < u
    low_part q r h u H U c = omega arith

    tie_even : (q r h u : ℕ) → 0 < h → u ≡ 2 * h → r * 2 ≡ u → q % 2 ≡ 0 → r + (h - 1) + q % 2 < u
    tie_even q r h u H U c e = omega arith

    high_ge : (q r h u : ℕ) → 0 < h → u ≡ 2 * h → u < r * 2 → u ≤ r + (h - 1) + q % 2
    high_ge q r h u H U c = omega arith

    tie_ge : (q r h u : ℕ) → 0 < h → u ≡ 2 * h → r * 2 ≡ u → q % 2 ≡ 1 → u ≤ r + (h - 1) + q % 2
    tie_ge q r h u H U c e = omega arith

    high_lt : (q r h u : ℕ) → 0 < h → u ≡ 2 * h → r < u → r + (h - 1) + q % 2 < 2 * u
    high_lt q r h u H U c = omega arith

    plus_none : (q x b : ℕ) → x ≡ 0 → b ≡ 0 → q + x ≡ q + b
    plus_none q x b e f = omega arith

    plus_zero : (q x : ℕ) → x ≡ 0 → q + x ≡ q
    plus_zero q x e = omega arith

    plus_one : (q x : ℕ) → x ≡ 1 → q + x ≡ suc q
    plus_one q x e = omega arith

    go : (q r h u : ℕ) (o : Ordering) → 0 < h → 0 < u → u ≡ 2 * h → r < u → Cmp o (r * 2) u → q + (r + (h - 1) + q % 2) / u ≡ nearest q o
    go q r h u Ordering.lt H U e l c = plus_zero q ((r + (h - 1) + q % 2) / u) (div-eq_of_lt (low_part q r h u H e c))
    go q r h u Ordering.eq H U e l c = elim (parity q) [
      | inl z ↦ plus_none q ((r + (h - 1) + q % 2) / u) (q % 2) (div-eq_of_lt (tie_even q r h u H e c z)) z
      | inr o ↦ ap (λ (x : ℕ). q + x) (div_at_one (r + (h - 1) + q % 2) u U (tie_ge q r h u H e c o) (high_lt q r h u H e l) ∙ sym o)
    ]
    go q r h u Ordering.gt H U e l c =
        plus_one q ((r + (h - 1) + q % 2) / u) (div_at_one (r + (h - 1) + q % 2) u U (high_ge q r h u H e c) (high_lt q r h u H e l))

-- ---- the machine's `1 << t`, and a pattern's sign

pub one_shl : (t : ℕ) → t < 64 → 1 * 2 ^ t % 2 ^ 64 ≡ 2 ^ t
one_shl t h = shl_exact 1 t 64 (lit< tt) (subst (λ (x : ℕ). x ≤ 64) (sym (one-add t)) h) ∙ one-mul (2 ^ t)
