-- Laws over a format, on bit patterns. `packs`: the pattern of a sign, an exponent field k and digits q is read as q * 2 ^ k smallest
-- values, an infinity past the largest; q may reach 2 ^ prec, where the carry goes into the field. `plain-bits`, `plain_pattern`: which
-- patterns are no NaN. Assumes nothing.
use mathlib.Core.Path.{◌≡◌, refl, sym, ap, ◌∙◌, subst}
use mathlib.Core.Logic.{◌⊎◌, inl, inr}
use Prim.Native.Nat.{ℕ, suc, ◌+◌, ◌-◌, ◌*◌, ◌/◌, ◌%◌, ◌^◌, ◌≤◌, ◌<◌}
use native.Mathlib.Nat.{le_refl, le_trans, le_of_eq, le_antisymm, lt_of_le_of_lt, eq-or-lt_of_le, zero-lt-suc, mul-one, mul_comm}
use native.Mathlib.Nat.{mul-le-mul_right, mul-lt-mul_of_pos_right, zero-add, add-mod_left, mod-eq_of_lt, add-le-add, add_assoc, suc-mul}
use native.Mathlib.Nat.{div-one, mul-div_cancel, le-div_iff_mul-le}
use native.Mathlib.Omega.{arith}
use native.Mathlib.Numerals.{add-one}
use mathlib.Core.Bool.{Bool, true, false, not, cond}
use lib.Dec.{T, ltb, ltb→lt, nltb→le}
use lib.Arith.{le→nltb}
use lib.Pow.{pow-add, pow_pos, pow-lt, shl_lt}
use lib.Ieee.{Float, inf, Format, binary32, binary64, prec, emax, low, size, odd, units, fits, is_nan, nan_bits, hid, ones, top, of_bits, to_bits}
use lib.Ieee.Digits.{size-le, size_reaches}
use lib.Ieee.Fits.{two, two-le_pos, odd-fits, inf-fits}
use lib.Ieee.Bits.{of_bits-to_bits, nan_bits_is, nan_bits_above}
use lib.Ieee.Exact.{odd_sign}
use Rattle.float_laws.proofs.Values.{pattern_of, to_bits_of}
use Rattle.float_laws.proofs.Rounding.{size_gt, drop_is}

-- ---- the pattern of q * 2 ^ k smallest values

to_bits_odd : (f : Format) (d : ℕ) (s : Bool) (q k : ℕ) → to_bits f (odd d s q k (low f)) ≡ pattern_of f s (q * 2 ^ k)
to_bits_odd f d s q k =
    to_bits_of f (odd d s q k (low f)) s (q * 2 ^ k) (2 ^ low f) (pow_pos (low f)) (odd_sign d s q k (low f))
    ∙ ap (pattern_of f s) (mul-div_cancel (q * 2 ^ k) (pow_pos (low f)))

pub twice_hid : (f : Format) → 2 ^ prec f ≡ hid f + hid f
twice_hid binary32 = refl
twice_hid binary64 = refl

-- the field and the digits of q * 2 ^ k, q at most 2 ^ prec: where q is 2 ^ prec, the field is one more
digits : (f : Format) (q k : ℕ) → q ≤ 2 ^ prec f → (k ≡ 0) ⊎ (hid f ≤ q) →
    (size (q * 2 ^ k) - prec f) * hid f + q * 2 ^ k / 2 ^ (size (q * 2 ^ k) - prec f) ≡ k * hid f + q
digits f q k h lo = elim (eq-or-lt_of_le h) [
  | inl e ↦
      let is : q * 2 ^ k ≡ 2 ^ (prec f + k) = ap (λ (x : ℕ). x * 2 ^ k) e ∙ sym (pow-add 2 (prec f) k) in
      let z : size (q * 2 ^ k) - prec f ≡ suc k = sub_of (size (q * 2 ^ k)) (prec f) k
      (size-le (q * 2 ^ k) (suc (prec f + k))
      (subst (λ (x : ℕ). x < 2 ^ suc (prec f + k)) (sym is) (pow-lt (le_refl (suc (prec f + k))))))
      (size_gt (q * 2 ^ k) (prec f + k) (le_of_eq (sym is))) in
      ap (λ (x : ℕ). x * hid f + q * 2 ^ k / 2 ^ x) z
      ∙ ap (λ (x : ℕ). suc k * hid f + x)
      (ap (λ (x : ℕ). x / 2 ^ suc k) (is ∙ ap (λ (x : ℕ). 2 ^ x) (shift (prec f) k (two-le_pos (prec f) (two f)))
      ∙ pow-add 2 (prec f - 1) (suc k)) ∙ mul-div_cancel (hid f) (pow_pos (suc k)))
      ∙ carry k (hid f) q (e ∙ twice_hid f)
  | inr l ↦
      let z : size (q * 2 ^ k) - prec f ≡ k = ap (λ (x : ℕ). size x - prec f) (sym (div-one (q * 2 ^ k)))
      ∙ drop_is (prec f) (q * 2 ^ k) 1 k (two-le_pos (prec f) (two f)) (zero-lt-suc 0)
      (subst (λ (x : ℕ). q * 2 ^ k < x) (sym (mul-one (2 ^ (prec f + k)))) (shl_lt (prec f) k l)) (lower lo) in
      ap (λ (x : ℕ). x * hid f + q * 2 ^ k / 2 ^ x) z ∙ ap (λ (x : ℕ). k * hid f + x) (mul-div_cancel q (pow_pos k))
]
  where
    sub_of : (z p k : ℕ) → z ≤ suc (p + k) → p + k < z → z - p ≡ suc k
    sub_of z p k h g = omega arith

    shift : (p k : ℕ) → 0 < p → p + k ≡ p - 1 + suc k
    shift p k h = omega arith

    carry : (k h q : ℕ) → q ≡ h + h → suc k * h + h ≡ k * h + q
    carry k h q e = ap (λ (x : ℕ). x + h) (suc-mul k h) ∙ add_assoc (k * h) h h ∙ ap (λ (x : ℕ). k * h + x) (sym e)

    lower : (k ≡ 0) ⊎ (hid f ≤ q) → (k ≡ 0) ⊎ (2 ^ (prec f - 1 + k) * 1 ≤ q * 2 ^ k)
    lower (inl e) = inl e
    lower (inr g) = inr (le_trans (le_of_eq (mul-one (2 ^ (prec f - 1 + k)) ∙ pow-add 2 (prec f - 1) k)) (mul-le-mul_right (2 ^ k) g))

-- from 2 ^ (emax + 1) on, the pattern is the infinity's
at_top : (f : Format) (q k : ℕ) → q ≤ 2 ^ prec f → (k ≡ 0) ⊎ (hid f ≤ q) → k * hid f + q ≤ ones f * hid f →
    2 ^ (low f + suc (emax f)) ≤ q * 2 ^ k → k * hid f + q ≡ ones f * hid f
at_top f q k h lo le big =
    let n = q * 2 ^ k in
    let p = prec f in
    let e = emax f in
    let z = size n in
    let K = z - p in
    let big_size : low f + suc e < z = size_gt n (low f + suc e) big in
    let full : hid f ≤ n / 2 ^ K = (le-div_iff_mul-le (pow_pos K)).1
    (le_trans (le_of_eq (sym (pow-add 2 (p - 1) K))) (size_reaches n (p - 1 + K) (inside z p e (two f) big_size))) in
    let more : 2 * e * hid f ≤ K * hid f = mul-le-mul_right (hid f) (many z p e (two f) big_size) in
    let one_more : ones f * hid f ≡ 2 * e * hid f + hid f = ap (λ (x : ℕ). x * hid f) (add-one (2 * e)) ∙ suc-mul (2 * e) (hid f) in
    let sum : K * hid f + n / 2 ^ K ≡ k * hid f + q = digits f q k h lo in
    le_antisymm le (le_trans (le_of_eq one_more) (le_trans (add-le-add more full) (le_of_eq sum)))
  where
    inside : (z p e : ℕ) → 2 ≤ p → e + p - 2 + suc e < z → p - 1 + (z - p) < z
    inside z p e a b = omega arith

    many : (z p e : ℕ) → 2 ≤ p → e + p - 2 + suc e < z → 2 * e ≤ z - p
    many z p e a b = omega arith

pub packs : (f : Format) (s : Bool) (q k : ℕ) → q ≤ 2 ^ prec f → (k ≡ 0) ⊎ (hid f ≤ q) → k * hid f + q ≤ ones f * hid f →
    of_bits f (cond s (top f) 0 + (k * hid f + q)) ≡ units f s q k
unfolding units to_bits
packs f s q k h lo le =
    go (ltb (q * 2 ^ k) (2 ^ (low f + suc (emax f)))) (ltb→lt (q * 2 ^ k) (2 ^ (low f + suc (emax f))))
    (nltb→le (q * 2 ^ k) (2 ^ (low f + suc (emax f))))
  where
    d : ℕ
    d = suc (prec f)

    go : (b : Bool) → (T b → q * 2 ^ k < 2 ^ (low f + suc (emax f))) → (T (not b) → 2 ^ (low f + suc (emax f)) ≤ q * 2 ^ k)
        → of_bits f (cond s (top f) 0 + (k * hid f + q)) ≡ cond b (odd (suc (prec f)) s q k (low f)) (inf s)
    go true a b =
        let v = odd (suc (prec f)) s q k (low f) in
        let is : to_bits f v ≡ cond s (top f) 0 + (k * hid f + q) =
        to_bits_odd f (suc (prec f)) s q k ∙ add_assoc (cond s (top f) 0) _ _ ∙ ap (λ (x : ℕ). cond s (top f) 0 + x) (digits f q k h lo) in
        ap (of_bits f) (sym is) ∙ of_bits-to_bits f v (odd-fits f (suc (prec f)) s q k (lt_of_le_of_lt h (pow-lt (le_refl (suc (prec f))))) h (a tt))
    go false a b =
        ap (λ (x : ℕ). of_bits f (cond s (top f) 0 + x)) (at_top f q k h lo le (b tt)) ∙ of_bits-to_bits f (inf s) (inf-fits f s)

-- a number that is no NaN's pattern, without its sign, is at most the infinity's
pub plain-bits : (f : Format) (x : Float) → T (fits f x) → T (not (is_nan x)) → to_bits f x % top f ≤ ones f * hid f
plain-bits f x F n =
    nltb→le (ones f * hid f) (to_bits f x % top f)
    (subst (λ (b : Bool). T (not b)) (ap is_nan (sym (of_bits-to_bits f x F)) ∙ sym (nan_bits_is f (to_bits f x)) ∙ nan_bits_above f (to_bits f x)) n)

-- a pattern that is at most the infinity's but for its sign is no NaN's
pub plain_word : (f : Format) (b : ℕ) → b % top f ≤ ones f * hid f → T (not (nan_bits f b))
plain_word f b h = subst (λ (t : Bool). T (not t)) (sym (nan_bits_above f b)) (le→nltb (ones f * hid f) (b % top f) h)

pub plain_pattern : (f : Format) (s : Bool) (r : ℕ) → r ≤ ones f * hid f → T (not (nan_bits f (cond s (top f) 0 + r)))
plain_pattern f s r h = plain_word f (cond s (top f) 0 + r) (subst (λ (x : ℕ). x ≤ ones f * hid f) (sym (rest s)) h)
  where
    r_lt : r < top f
    r_lt =
        lt_of_le_of_lt h (subst (λ (x : ℕ). ones f * hid f < x) (mul_comm (suc (ones f)) (hid f))
        (mul-lt-mul_of_pos_right (le_refl (suc (ones f))) (pow_pos (prec f - 1))))

    rest : (s : Bool) → (cond s (top f) 0 + r) % top f ≡ r
    rest true = add-mod_left (top f) r ∙ mod-eq_of_lt r_lt
    rest false = ap (λ (x : ℕ). x % top f) (zero-add r) ∙ mod-eq_of_lt r_lt

pub plain_small : (f : Format) (r : ℕ) → r ≤ ones f * hid f → T (not (nan_bits f r))
plain_small f r h = subst (λ (x : ℕ). T (not (nan_bits f x))) (zero-add r) (plain_pattern f false r h)
