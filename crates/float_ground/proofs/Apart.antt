-- Laws over a format, on taking a float apart: what the fields of a pattern stand for, and a number m in normal form. Assumes nothing.
use mathlib.Core.Path.{◌≡◌, refl, sym, ap, ◌∙◌, subst}
use mathlib.Core.Bool.{Bool, not}
use Prim.Native.Nat.{ℕ, zero, suc, ◌+◌, ◌-◌, ◌*◌, ◌/◌, ◌%◌, ◌^◌, ◌≤◌, ◌<◌}
use native.Mathlib.Nat.{le_trans, le_of_eq, lt_of_lt_of_le, lt_of_le_of_lt, lt_of_not-le, lt_irrefl, mul_assoc, mul-le-mul_right}
use native.Mathlib.Nat.{sub-add_cancel, mul-mod_left, add_comm}
use native.Mathlib.Omega.{arith}
use lib.Dec.{T, leb, eqb, eqb→eq, not_T}
use lib.IntN.{pos}
use lib.Pow.{pow-add, pow_mono, shl_lt}
use lib.Count.{count_leading_zeros, leading_top}
use lib.Ieee.{Float, inf, fin, Format, binary32, binary64, prec, low, odd, hid, ones, top, of_fields, of_bits, to_bits, fits, is_nan}
use lib.Ieee.Bits.{is_false, of_bits-to_bits}
use lib.Ieee.Exact.{HasValue, odd_sign}
use Rattle.float_laws.proofs.Patterns.{plain-bits}

-- ---- of w places, z is m's leading zeros but d: the shift that brings its leading digit to 2 ^ p, and none of its digits is lost

pub record Shift (w d p m z : ℕ) : Type 0 where
  pub some : d < count_leading_zeros w m
  pub few : count_leading_zeros w m < w
  pub at_least : 2 ^ p ≤ m * 2 ^ z
  pub under : m * 2 ^ z < 2 ^ suc p
  pub clear : (q : ℕ) → q ≤ p → m < 2 ^ q → m * 2 ^ z % 2 ^ (suc p - q) ≡ 0

pow_lt_back : (i p : ℕ) → 2 ^ i < 2 ^ p → i < p
pow_lt_back i p h = lt_of_not-le (λ (g : p ≤ i). lt_irrefl (2 ^ i) (lt_of_lt_of_le h (pow_mono g)))

-- the digits below 2 ^ k of a number shifted by at least k
tail : (m z k : ℕ) → k ≤ z → m * 2 ^ z % 2 ^ k ≡ 0
tail m z k h =
    let split : 2 ^ (z - k) * 2 ^ k ≡ 2 ^ z = sym (pow-add 2 (z - k) k) ∙ ap (λ (y : ℕ). 2 ^ y) (sub-add_cancel h) in
    ap (λ (y : ℕ). m * y % 2 ^ k) (sym split) ∙ ap (λ (y : ℕ). y % 2 ^ k) (sym (mul_assoc m (2 ^ (z - k)) (2 ^ k)))
    ∙ mul-mod_left (m * 2 ^ (z - k)) (2 ^ k)

pub shift : (w d p m z : ℕ) → suc (p + d) ≡ w → 0 < m → m < 2 ^ p → z ≡ count_leading_zeros w m - d → Shift w d p m z
shift w d p m z W M h Z =
    let wider : p ≤ w = omega arith in
    go (count_leading_zeros w m) refl (leading_top w m M (lt_of_lt_of_le h (pow_mono wider)))
  where
    go : (l : ℕ) → count_leading_zeros w m ≡ l → (t : ℕ) × (l + suc t ≡ w) × (2 ^ t ≤ m) × (m < 2 ^ suc t) → Shift w d p m z
    go l e r =
        let t = r.0 in
        let low_enough : t < p = pow_lt_back t p (lt_of_le_of_lt r.2 h) in
        let sum : t + z ≡ p = omega (arith, r.1, e, Z) in
        let next : suc t + z ≡ suc p = omega arith in
        record {
          some = omega (arith, r.1, e);
          few = omega (arith, r.1, e);
          at_least = le_trans (le_of_eq (ap (λ (y : ℕ). 2 ^ y) (sym sum) ∙ pow-add 2 t z)) (mul-le-mul_right (2 ^ z) r.2);
          under = subst (λ (y : ℕ). m * 2 ^ z < 2 ^ y) next (shl_lt (suc t) z r.3);
          clear = λ q Q g.
              let below : t < q = pow_lt_back t q (lt_of_le_of_lt r.2 g) in
              tail m z (suc p - q) (omega (arith, sum));
        }

-- ---- what the fields stand for

pub fields_infinite : (f : Format) (s : Bool) (x t : ℕ) → x ≡ ones f → t ≡ 0 → of_fields f s x t ≡ inf s
unfolding of_fields
fields_infinite binary32 s x t e z = rw (e, z)
fields_infinite binary64 s x t e z = rw (e, z)

pub fields_zero : (f : Format) (s : Bool) (x t : ℕ) → x ≤ 0 → t ≤ 0 → of_fields f s x t ≡ fin s 0 (pos 0)
unfolding of_fields odd
fields_zero f s x t h g =
    let e : x ≡ 0 = omega arith in
    let z : t ≡ 0 = omega arith in
    rw (e, z)

pub fields_low : (f : Format) (s : Bool) (x t : ℕ) → x ≤ 0 → HasValue (of_fields f s x t) s (t * 2 ^ 0) (2 ^ low f)
unfolding of_fields
fields_low f s x t h =
    let e : x ≡ 0 = omega arith in
    rw e (odd_sign (prec f) s t 0 (low f))

pub fields_high : (f : Format) (s : Bool) (x t : ℕ) → 0 < x → (x ≡ ones f → ⊥) → HasValue (of_fields f s x t) s ((t + hid f) * 2 ^ (x - 1)) (2 ^ low f)
unfolding of_fields
fields_high f s zero t p n = absurd (lt_irrefl 0 p)
fields_high f s (suc x) t p n =
    let e : suc x - 1 ≡ x = omega arith in
    rw (
      is_false (eqb (suc x) (ones f)) (not_T (eqb (suc x) (ones f)) (λ h. n (eqb→eq (suc x) (ones f) h))),
      e,
      add_comm t (hid f),
    ) (odd_sign (prec f) s (hid f + t) x (low f))

-- m * 2 ^ j smallest values as a fraction of 2 ^ 1128
pub shifted : (f : Format) (m j : ℕ) → m * 2 ^ j * 2 ^ 1128 ≡ m * 2 ^ (j + (1128 - low f)) * 2 ^ low f
shifted f m j =
    ap (λ (y : ℕ). m * 2 ^ j * 2 ^ y) (sym (whole f))
    ∙ ap (λ (y : ℕ). m * 2 ^ j * y) (pow-add 2 (1128 - low f) (low f))
    ∙ sym (mul_assoc (m * 2 ^ j) (2 ^ (1128 - low f)) (2 ^ low f))
    ∙ ap (λ (y : ℕ). y * 2 ^ low f) (mul_assoc m (2 ^ j) (2 ^ (1128 - low f)) ∙ ap (λ (y : ℕ). m * y) (sym (pow-add 2 j (1128 - low f))))
  where
    whole : (f : Format) → 1128 - low f + low f ≡ 1128
    whole binary32 = refl
    whole binary64 = refl

-- ---- the fields of a pattern that is no NaN's

pub fields_in : (f : Format) (x : Float) → T (fits f x) → T (not (is_nan x)) →
    (to_bits f x % top f / hid f ≤ ones f) × ((to_bits f x % hid f < hid f) × (to_bits f x % top f / hid f ≡ ones f → to_bits f x % hid f ≡ 0))
fields_in f x F n = go f (to_bits f x) (plain-bits f x F n)
  where
    go : (f : Format) (b : ℕ) → b % top f ≤ ones f * hid f →
        (b % top f / hid f ≤ ones f) × ((b % hid f < hid f) × (b % top f / hid f ≡ ones f → b % hid f ≡ 0))
    go binary32 b h = omega arith
    go binary64 b h = omega arith

pub fields_are : (f : Format) (x : Float) → T (fits f x) → of_fields f (leb (top f) (to_bits f x)) (to_bits f x % top f / hid f) (to_bits f x % hid f) ≡ x
unfolding of_bits
fields_are f x F = of_bits-to_bits f x F
