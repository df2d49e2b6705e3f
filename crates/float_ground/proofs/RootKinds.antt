-- Laws over a format, on what the tests of a square root tell of x: that its pattern is a normal or a subnormal number's, that it has no
-- root, or that it is its own. Assumes nothing.
use mathlib.Core.Path.{◌≡◌, refl, sym, ap, ◌∙◌, subst}
use mathlib.Core.Logic.{inl, inr}
use mathlib.Core.Bool.{Bool, true, false, not, ◌&&◌, true≢false}
use Prim.Native.Nat.{ℕ, zero, suc, ◌+◌, ◌-◌, ◌*◌, ◌/◌, ◌%◌, ◌^◌, ◌≤◌, ◌<◌, zero-le}
use native.Mathlib.Nat.{le_trans, le_of_eq, le-add_left, le-mul_of_pos_right, lt_of_le_of_lt, not-le_of_lt, zero-lt-suc, eq-zero-or-pos}
use native.Mathlib.Nat.{zero-add, mul-one, mul-pos, mul-le-mul_right, le_of_mul-le-mul_right}
use native.Mathlib.Omega.{arith}
use borrow.Author.Tests.{leb-false, ltb-false}
use lib.IntN.{pos}
use lib.Dec.{T, T_not, leb, ltb→lt, lt→ltb}
use lib.Pow.{pow_pos}
use lib.Ieee.{Float, nan, inf, fin, Format, binary32, binary64, prec, low, up, down, hid, ones, top, fits, is_nan, div, lt, le, of_bits, to_bits}
use lib.Ieee.Fits.{up_pos, and_l, and_r}
use lib.Ieee.Bits.{of_bits-to_bits}
use lib.Ieee.Exact.{HasValue}
use lib.Ieee.Order.{le_of_values}
use lib.Ieee.Positive.{positive, positive_of_value, above, above_of_le, values_of_le, value_pos, first_pos}
use Rattle.float_laws.specs.Root.{Root, root_of}
use Rattle.float_laws.proofs.RootMeaning.{both}
use Rattle.float_laws.proofs.Sides.{le_not_lt}
use Rattle.float_laws.proofs.Sign.{infinite, nan_by_zero}
use Rattle.float_ground.proofs.Apart.{fields_in, fields_are, fields_high, fields_low, fields_infinite}
use Rattle.float_ground.proofs.Converting.{zero_bits}

-- ---- the tests: at least the smallest normal number and below the infinity; above zero and below the smallest normal number

abbrev pub least : Format → Float
least f = of_bits f (hid f)

abbrev pub is_normal : Format → Float → Bool
is_normal f x = le (least f) x && lt x (of_bits f (ones f * hid f))

abbrev pub is_subnormal : Format → Float → Bool
is_subnormal f x = lt (of_bits f 0) x && lt x (least f)

-- ---- what they compare with

least_value : (f : Format) → HasValue (least f) false (hid f) (2 ^ low f)
unfolding of_bits
least_value binary32 = fields_high binary32 false 1 0 (zero-lt-suc 0) (λ e. omega arith)
least_value binary64 = fields_high binary64 false 1 0 (zero-lt-suc 0) (λ e. omega arith)

least_positive : (f : Format) → T (positive (least f))
least_positive f = positive_of_value (least f) (hid f) (2 ^ low f) (least_value f) (pow_pos (prec f - 1))

infinity : (f : Format) → of_bits f (ones f * hid f) ≡ inf false
infinity f = ap (of_bits f) (sym (zero-add (ones f * hid f))) ∙ infinite f false

-- ---- what a test that is passed rules out

-- what is below anything is no NaN, so it has a pattern
is_number : (b : Bool) (x y : Float) → (b && lt x y) ≡ true → T (not (is_nan x))
unfolding lt is_nan
is_number b nan y h = and_r b false (subst T (sym h) tt)
is_number b (inf s) y h = tt
is_number b (fin s m e) y h = tt

pub normal_number : (f : Format) (x : Float) → is_normal f x ≡ true → T (not (is_nan x))
normal_number f x h = is_number (le (least f) x) x (of_bits f (ones f * hid f)) h

pub subnormal_number : (f : Format) (x : Float) → is_subnormal f x ≡ true → T (not (is_nan x))
subnormal_number f x h = is_number (lt (of_bits f 0) x) x (least f) h

-- and if it is above zero, it is no infinity either
above_of_lt : (x : Float) → T (lt (fin false 0 (pos 0)) x) → T (above x)
unfolding lt
above_of_lt nan h = h
above_of_lt (inf s) h = h
above_of_lt (fin true n d) h = h
above_of_lt (fin false n d) h =
    lt→ltb 0 n (first_pos n (up d) (first_pos (n * up d) 1 (lt_of_le_of_lt zero-le (ltb→lt (0 * 1 * down d) (n * up d * 1) h))))

under : (x y : Float) → T (above x) → T (lt x y) → T (positive x)
unfolding lt
under nan y a h = a
under (inf true) y a h = a
under (inf false) nan a h = h
under (inf false) (inf t) a h = h
under (inf false) (fin t n d) a h = h
under (fin true m e) y a h = a
under (fin false m e) y a h = a

-- ---- what a finite number above zero is

positive_number : (x : Float) → T (positive x) → T (not (is_nan x))
unfolding is_nan
positive_number nan p = p
positive_number (inf s) p = tt
positive_number (fin s m e) p = tt

below_infinity : (x : Float) → T (positive x) → T (lt x (inf false))
unfolding lt
below_infinity nan p = p
below_infinity (inf s) p = absurd p
below_infinity (fin s m e) p = tt

above_zero : (x : Float) → T (positive x) → T (lt (fin false 0 (pos 0)) x)
unfolding lt
above_zero nan p = p
above_zero (inf s) p = absurd p
above_zero (fin true m e) p = p
above_zero (fin false m e) p = lt→ltb (0 * 1 * down e) (m * up e * 1) (omega (arith, mul-pos (ltb→lt 0 m p) (up_pos e)))

positive_sign : (x : Float) (s : Bool) (a c : ℕ) → T (positive x) → HasValue x s a c → s ≡ false
positive_sign nan s a c p h = absurd p
positive_sign (inf t) s a c p h = absurd p
positive_sign (fin true m e) s a c p h = absurd p
positive_sign (fin false m e) s a c p h = sym h.0

-- ---- the fields of a finite number above zero: no sign, and a field k below the infinity's. So which of the two kinds x is turns on
-- whether k is 0, and that on how x compares with the smallest normal number.

module _ (f : Format) (x : Float) (F : T (fits f x)) (p : T (positive x)) where
  abbrev b : ℕ
  b = to_bits f x

  abbrev s : Bool
  s = leb (top f) b

  abbrev k : ℕ
  k = b % top f / hid f

  abbrev t : ℕ
  t = b % hid f

  bounds : (k ≤ ones f) × ((t < hid f) × (k ≡ ones f → t ≡ 0))
  bounds = fields_in f x F (positive_number x p)

  short : k ≡ ones f → ⊥
  short e = subst (λ (y : Float). T (positive y)) (sym (fields_are f x F) ∙ fields_infinite f s k t e (bounds.1.1 e)) p

  low_value : k ≡ 0 → HasValue x s (t * 2 ^ 0) (2 ^ low f)
  low_value z = subst (λ (y : Float). HasValue y s (t * 2 ^ 0) (2 ^ low f)) (fields_are f x F) (fields_low f s k t (le_of_eq z))

  high_value : 0 < k → HasValue x s ((t + hid f) * 2 ^ (k - 1)) (2 ^ low f)
  high_value h = subst (λ (y : Float). HasValue y s ((t + hid f) * 2 ^ (k - 1)) (2 ^ low f)) (fields_are f x F) (fields_high f s k t h short)

  plus : s ≡ false
  plus = elim (eq-zero-or-pos k) [
    | inl z ↦ positive_sign x s (t * 2 ^ 0) (2 ^ low f) p (low_value z)
    | inr h ↦ positive_sign x s ((t + hid f) * 2 ^ (k - 1)) (2 ^ low f) p (high_value h)
  ]

  unsigned : b < top f
  unsigned = leb-false (top f) b plus

  normal : T (le (least f) x) → (hid f ≤ b) × (b < ones f * hid f)
  normal h = elim (eq-zero-or-pos k) [
    | inl z ↦
        let v : HasValue x false t (2 ^ low f) = rw (plus, mul-one t) at (low_value z) in
        absurd (not-le_of_lt bounds.1.0
        (le_of_mul-le-mul_right (values_of_le (least f) x (hid f) (2 ^ low f) t (2 ^ low f) (least_positive f) p (least_value f) v h)
        (pow_pos (low f))))
    | inr l ↦ within f b unsigned bounds.0 short l
  ]
    where
      within : (f : Format) (b : ℕ) → b < top f → b % top f / hid f ≤ ones f → (b % top f / hid f ≡ ones f → ⊥) → 0 < b % top f / hid f →
          (hid f ≤ b) × (b < ones f * hid f)
      within binary32 b u h n l = omega arith
      within binary64 b u h n l = omega arith

  subnormal : T (lt x (least f)) → (0 < b) × (b < hid f)
  subnormal h = elim (eq-zero-or-pos k) [
    | inl z ↦
        let v : HasValue x false t (2 ^ low f) = rw (plus, mul-one t) at (low_value z) in
        within f b unsigned z (value_pos x t (2 ^ low f) p (pow_pos (low f)) v)
    | inr l ↦
        let v : HasValue x false ((t + hid f) * 2 ^ (k - 1)) (2 ^ low f) = rw plus at (high_value l) in
        absurd (T_not (lt x (least f))
        (subst T (le_not_lt (least f) x (positive_number (least f) (least_positive f)) (positive_number x p))
        (le_of_values (least f) x (hid f) (2 ^ low f) ((t + hid f) * 2 ^ (k - 1)) (2 ^ low f) (pow_pos (low f)) (pow_pos (low f))
        (least_value f) v
        (mul-le-mul_right (2 ^ low f) (le_trans (le-add_left (hid f) t) (le-mul_of_pos_right (t + hid f) (pow_pos (k - 1)))))))
        h)
  ]
    where
      within : (f : Format) (b : ℕ) → b < top f → b % top f / hid f ≡ 0 → 0 < b % hid f → (0 < b) × (b < hid f)
      within binary32 b u z l = omega arith
      within binary64 b u z l = omega arith

-- ---- what the tests tell

pub normal_bits : (f : Format) (x : Float) → T (fits f x) → is_normal f x ≡ true → (hid f ≤ to_bits f x) × (to_bits f x < ones f * hid f)
normal_bits f x F h =
    let a : T (le (least f) x) = and_l (le (least f) x) (lt x (of_bits f (ones f * hid f))) (subst T (sym h) tt) in
    let l : T (lt x (of_bits f (ones f * hid f))) = and_r (le (least f) x) (lt x (of_bits f (ones f * hid f))) (subst T (sym h) tt) in
    normal f x F (under x (of_bits f (ones f * hid f)) (above_of_le (least f) x (least_positive f) a) l) a

pub subnormal_bits : (f : Format) (x : Float) → T (fits f x) → is_subnormal f x ≡ true → (0 < to_bits f x) × (to_bits f x < hid f)
subnormal_bits f x F h =
    let a : T (lt (of_bits f 0) x) = and_l (lt (of_bits f 0) x) (lt x (least f)) (subst T (sym h) tt) in
    let l : T (lt x (least f)) = and_r (lt (of_bits f 0) x) (lt x (least f)) (subst T (sym h) tt) in
    subnormal f x F (under x (least f) (above_of_lt x (rw (zero_bits f false) at a)) l) l

-- a number below zero has no root
pub below_zero : (f : Format) (x : Float) → lt x (of_bits f 0) ≡ true → nan ≡ root_of f x
unfolding lt root_of
below_zero f x h = go x (subst (λ (z : Float). T (lt x z)) (zero_bits f false) (subst T (sym h) tt))
  where
    go : (x : Float) → T (lt x (fin false 0 (pos 0))) → nan ≡ root_of f x
    go nan l = absurd l
    go (inf true) l = refl
    go (inf false) l = absurd l
    go (fin true zero e) l = absurd (omega (arith, ltb→lt))
    go (fin true (suc m) e) l = refl
    go (fin false m e) l = absurd (omega (arith, ltb→lt))

-- a finite number above zero passes one of the tests
passes : (f : Format) (x : Float) → T (positive x) → is_normal f x ≡ false → is_subnormal f x ≡ false → ⊥
passes f x p h g =
    one (le (least f) x) (lt x (of_bits f (ones f * hid f))) (lt (of_bits f 0) x) (lt x (least f))
    (le_not_lt (least f) x (positive_number (least f) (least_positive f)) (positive_number x p))
    (rw (infinity f) (below_infinity x p)) (rw (zero_bits f false) (above_zero x p)) h g
  where
    one : (n i z s : Bool) → n ≡ not s → T i → T z → (n && i) ≡ false → (z && s) ≡ false → ⊥
    one n true true true e a c h g = true≢false g
    one n true true false e a c h g = true≢false (sym (ap (λ (y : Bool). y && true) e) ∙ h)
    one n true false s e a c h g = elim c [ ]
    one n false z s e a c h g = elim a [ ]

-- and so what passes none and is not below zero is a zero, the infinity or a NaN: each is its own root
pub own_root : (f : Format) (x : Float) → is_normal f x ≡ false → is_subnormal f x ≡ false → lt x (of_bits f 0) ≡ false → x ≡ root_of f x
unfolding lt root_of
own_root f x h g l = go x (λ p. passes f x p h g) (sym (ap (lt x) (zero_bits f false)) ∙ l)
  where
    go : (x : Float) → (T (positive x) → ⊥) → lt x (fin false 0 (pos 0)) ≡ false → x ≡ root_of f x
    go nan n l = refl
    go (inf true) n l = absurd (true≢false l)
    go (inf false) n l = refl
    go (fin s zero e) n l = refl
    go (fin true (suc m) e) n l =
        absurd (omega (arith, ltb-false 0 (suc m * up e * 1 + 0 * 1 * down e) l, mul-pos (zero-lt-suc m) (up_pos e)))
    go (fin false (suc m) e) n l = absurd (n (lt→ltb 0 (suc m) (zero-lt-suc m)))

-- ---- what each arm answers is the root, and has its meaning

pub of_pattern : (f : Format) (x r : Float) → T (fits f x) → r ≡ root_of f (of_bits f (to_bits f x)) → (r ≡ root_of f x) × Root f x r
of_pattern f x r F e = both f x r F (e ∙ ap (root_of f) (of_bits-to_bits f x F))

pub no_root : (f : Format) (x : Float) → T (fits f x) → lt x (of_bits f 0) ≡ true →
    (div f (of_bits f 0) (of_bits f 0) ≡ root_of f x) × Root f x (div f (of_bits f 0) (of_bits f 0))
no_root f x F h = both f x (div f (of_bits f 0) (of_bits f 0)) F (nan_by_zero f ∙ below_zero f x h)

pub itself : (f : Format) (x : Float) → T (fits f x) → is_normal f x ≡ false → is_subnormal f x ≡ false → lt x (of_bits f 0) ≡ false →
    (x ≡ root_of f x) × Root f x x
itself f x F h g l = both f x x F (own_root f x h g l)
