-- Laws over a format, on the values that it holds: each is a whole number of smallest values with few digits, no two are the same number,
-- and rounding one of them changes nothing. Assumes nothing.
use mathlib.Core.Path.{◌≡◌, refl, sym, ap, ◌∙◌, subst}
use mathlib.Core.Bool.{Bool, cond, ◌&&◌}
use Prim.Native.Nat.{ℕ, zero, suc, ◌+◌, ◌-◌, ◌*◌, ◌/◌, ◌%◌, ◌^◌, ◌≤◌, ◌<◌}
use native.Mathlib.Nat.{le_of_suc-le-suc, lt_of_lt_of_le, lt_of_not-le, lt_irrefl, zero-mul, mul-one, mul_comm, mul_assoc, mul_right_comm}
use native.Mathlib.Nat.{mul-div_cancel, lt_of_mul-lt-mul_right, mul-lt-mul_of_pos_right}
use lib.IntN.{ℤ, pos, negsuc}
use lib.Dec.{T, leb, ltb, eqb, ltb→lt, leb→le}
use lib.Pow.{pow-add, pow_pos, pow-lt}
use lib.Ieee.{Float, nan, inf, fin, Format, prec, emax, low, up, down, size, round, fits, hid, top, of_bits, to_bits}
use lib.Ieee.Digits.{back}
use lib.Ieee.Fits.{and_l, and_r, round-fits, down_pos}
use lib.Ieee.Bits.{of_bits-to_bits}
use lib.Ieee.Exact.{HasValue, round_exact}
use lib.Ieee.Nearest.{div_same}
use lib.Ieee.Scale.{finite}
use lib.Ieee.Positive.{num, den}

-- ---- a fraction of one's own

pub cancel : (a b : ℕ) {c : ℕ} → 0 < c → a * c ≡ b * c → a ≡ b
cancel a b {c} C e = sym (mul-div_cancel a C) ∙ ap (λ (z : ℕ). z / c) e ∙ mul-div_cancel b C

pub same_value : (x : Float) (s : Bool) (a c a' c' : ℕ) → 0 < c → a * c' ≡ a' * c → HasValue x s a c → HasValue x s a' c'
same_value nan s a c a' c' C e h = h
same_value (inf t) s a c a' c' C e h = h
same_value (fin t m d) s a c a' c' C e h = (
  h.0,
  cancel (m * up d * c') (a' * down d) C (mul_right_comm (m * up d) c' c ∙ ap (λ (z : ℕ). z * c') h.1
      ∙ mul_right_comm a (down d) c' ∙ ap (λ (z : ℕ). z * down d) e ∙ mul_right_comm a' c (down d)),
)

-- ---- a value is a whole number of smallest values, with few digits

pow_le_back : (a l : ℕ) → 2 ^ a ≤ 2 ^ l → a ≤ l
pow_le_back a l h = le_of_suc-le-suc (lt_of_not-le (λ (g : suc l ≤ a). lt_irrefl (2 ^ l) (lt_of_lt_of_le (pow-lt g) h)))

-- y is m * 2 ^ i smallest values
pub record Counted (f : Format) (y : Float) : Type 0 where
  pub m : ℕ
  pub i : ℕ
  pub few : m < 2 ^ prec f
  pub value : num y * 2 ^ low f ≡ m * 2 ^ i * den y
  pub under : m * 2 ^ i < 2 ^ (low f + suc (emax f))

-- what `value` says of `under`
bound : (f : Format) (n v d : ℕ) → n * 2 ^ low f ≡ v * d → n < 2 ^ suc (emax f) * d → v < 2 ^ (low f + suc (emax f))
bound f n v d e h =
    lt_of_mul-lt-mul_right d
    (subst (λ (z : ℕ). z < 2 ^ (low f + suc (emax f)) * d) e
    (subst (λ (z : ℕ). n * 2 ^ low f < z) (mul_right_comm (2 ^ suc (emax f)) d (2 ^ low f)
    ∙ ap (λ (z : ℕ). z * d) (mul_comm (2 ^ suc (emax f)) (2 ^ low f) ∙ sym (pow-add 2 (low f) (suc (emax f)))))
    (mul-lt-mul_of_pos_right h (pow_pos (low f)))))

of_exponent : (f : Format) (s : Bool) (m : ℕ) (e : ℤ) → m < 2 ^ prec f → down e ≤ 2 ^ low f →
    m * up e < 2 ^ suc (emax f) * down e → Counted f (fin s m e)
of_exponent f s m (pos a) h d u =
    let is : m * 2 ^ a * 2 ^ low f ≡ m * 2 ^ (a + low f) * 1 = mul_assoc m (2 ^ a) (2 ^ low f)
    ∙ ap (λ (x : ℕ). m * x) (sym (pow-add 2 a (low f))) ∙ sym (mul-one (m * 2 ^ (a + low f))) in
    record { m = m; i = a + low f; few = h; value = is; under = bound f (m * 2 ^ a) (m * 2 ^ (a + low f)) 1 is u }
of_exponent f s m (negsuc a) h d u =
    let le : suc a ≤ low f = pow_le_back (suc a) (low f) d in
    let is : m * 1 * 2 ^ low f ≡ m * 2 ^ (low f - suc a) * 2 ^ suc a =
    ap (λ (x : ℕ). x * 2 ^ low f) (mul-one m)
    ∙ ap (λ (x : ℕ). m * x) (ap (λ (x : ℕ). 2 ^ x) (sym (back (low f) (suc a) le)) ∙ pow-add 2 (low f - suc a) (suc a))
    ∙ sym (mul_assoc m (2 ^ (low f - suc a)) (2 ^ suc a)) in
    record { m = m; i = low f - suc a; few = h; value = is; under = bound f (m * 1) (m * 2 ^ (low f - suc a)) (2 ^ suc a) is u }

pub count_of : (f : Format) (y : Float) → T (fits f y) → T (finite y) → Counted f y
unfolding fits
count_of f nan h c = absurd c
count_of f (inf s) h c = absurd c
count_of f (fin s zero e) h c =
    record {
      m = 0;
      i = 0;
      few = pow_pos (prec f);
      value = ap (λ (x : ℕ). x * 2 ^ low f) (zero-mul (up e)) ∙ zero-mul (2 ^ low f) ∙ sym (zero-mul (down e));
      under = pow_pos (low f + suc (emax f));
    }
count_of f (fin s (suc m) e) h c =
    let A = eqb (suc m % 2) 1 in
    let B = ltb (suc m) (2 ^ prec f) in
    let C = leb (down e) (2 ^ low f) in
    let D = ltb (suc m * up e) (2 ^ suc (emax f) * down e) in
    of_exponent f s (suc m) e (ltb→lt (suc m) (2 ^ prec f) (and_r A B (and_l (A && B) C (and_l (A && B && C) D h))))
    (leb→le (down e) (2 ^ low f) (and_r (A && B) C (and_l (A && B && C) D h)))
    (ltb→lt (suc m * up e) (2 ^ suc (emax f) * down e) (and_r (A && B && C) D h))

-- ---- no two values are the same number

abbrev pub pattern_of : Format → Bool → ℕ → ℕ
pattern_of f s n = cond s (top f) 0 + (size n - prec f) * hid f + n / 2 ^ (size n - prec f)

pub to_bits_of : (f : Format) (x : Float) (s : Bool) (a c : ℕ) → 0 < c → HasValue x s a c → to_bits f x ≡ pattern_of f s (a * 2 ^ low f / c)
unfolding to_bits
to_bits_of f nan s a c C h = absurd h
to_bits_of f (inf t) s a c C h = absurd h
to_bits_of f (fin t m e) s a c C h =
    ap (pattern_of f t) (div_same (m * up e * 2 ^ low f) (down e) (a * 2 ^ low f) c (down_pos e) C
    (mul_right_comm (m * up e) (2 ^ low f) c ∙ ap (λ (z : ℕ). z * 2 ^ low f) h.1 ∙ mul_right_comm a (down e) (2 ^ low f)))
    ∙ ap (λ (b : Bool). pattern_of f b (a * 2 ^ low f / c)) h.0

pub value_unique : (f : Format) (x y : Float) (s : Bool) (a c : ℕ) → T (fits f x) → T (fits f y) → 0 < c → HasValue x s a c → HasValue y s a c → x ≡ y
value_unique f x y s a c F G C h g =
    sym (of_bits-to_bits f x F) ∙ ap (of_bits f) (to_bits_of f x s a c C h ∙ sym (to_bits_of f y s a c C g)) ∙ of_bits-to_bits f y G

-- ---- rounding what the format holds

pub own_fraction : (s : Bool) (m : ℕ) (e : ℤ) → HasValue (fin s m e) s (m * up e) (down e)
own_fraction s m e = (refl, refl)

pub round_own : (f : Format) (s : Bool) (m : ℕ) (e : ℤ) → T (fits f (fin s m e)) → round f s (m * up e) (down e) ≡ fin s m e
round_own f s m e F =
    let z = count_of f (fin s m e) F tt in
    value_unique f (round f s (m * up e) (down e)) (fin s m e) s (m * up e) (down e) (round-fits f s (m * up e) (down e)) F (down_pos e)
    (round_exact f s (m * up e) (down e) z.m z.i (down_pos e) z.few z.under z.value) (own_fraction s m e)
