-- A number brought to the form in which its root is taken, over the format: its leading digit at 2 ^ wide. Assumes nothing.
use mathlib.Core.Path.{◌≡◌, sym, ap, ◌∙◌}
use mathlib.Core.Bool.{false}
use Prim.Native.Nat.{ℕ, suc, ◌+◌, ◌-◌, ◌*◌, ◌/◌, ◌%◌, ◌^◌, ◌≤◌, ◌<◌}
use native.Mathlib.Nat.{le_refl, lt_of_lt_of_le, pow-succ', le_of_eq, mul_assoc, add-mod_left, mod-eq_of_lt, div-eq_of_lt}
use native.Mathlib.Omega.{arith}
use lib.Dec.{leb, lit≤}
use lib.Count.{count_leading_zeros}
use lib.Arith.{lt→nleb}
use lib.Pow.{pow-add, pow_pos, pow_mono}
use lib.Ieee.{Float, Format, binary32, binary64, low, hid, ones, top, of_bits}
use lib.Ieee.Bits.{is_false}
use lib.Ieee.Exact.{HasValue}
use Rattle.float_laws.proofs.Values.{same_value}
use Rattle.float_ground.specs.Parts.{wide, zeros}
use Rattle.float_ground.proofs.Apart.{Shift, shift, fields_high, fields_low}

-- a number whose leading digit stands at p
pub leading : (v p : ℕ) → p ≤ v → v < p + p → v % p + p ≡ v
leading v p lo hi =
    let rest : v - p < p = omega arith in
    let sum : p + (v - p) ≡ v = omega arith in
    ap (λ (y : ℕ). y % p + p) (sym sum) ∙ ap (λ (y : ℕ). y + p) (add-mod_left p (v - p) ∙ mod-eq_of_lt rest) ∙ back v p lo
  where
    back : (v p : ℕ) → p ≤ v → v - p + p ≡ v
    back v p h = omega arith

-- m * 2 ^ j smallest values, m shifted by z
pub value_by : (f : Format) (x : Float) (m j z g t : ℕ) → HasValue x false (m * 2 ^ j) (2 ^ low f) → t % 2 ^ wide f + 2 ^ wide f ≡ m * 2 ^ z →
    j + (low f + low f + 1 - zeros f) ≡ z + g + low f →
    HasValue x false ((t % 2 ^ wide f + 2 ^ wide f) * 2 ^ g) (2 ^ (low f + low f + 1 - zeros f))
value_by f x m j z g t v l e =
    same_value x false (m * 2 ^ j) (2 ^ low f) ((t % 2 ^ wide f + 2 ^ wide f) * 2 ^ g) (2 ^ (low f + low f + 1 - zeros f)) (pow_pos (low f)) shifted v
  where
    join : (a b : ℕ) → m * 2 ^ a * 2 ^ b ≡ m * 2 ^ (a + b)
    join a b = mul_assoc m (2 ^ a) (2 ^ b) ∙ ap (λ (y : ℕ). m * y) (sym (pow-add 2 a b))

    shifted : m * 2 ^ j * 2 ^ (low f + low f + 1 - zeros f) ≡ (t % 2 ^ wide f + 2 ^ wide f) * 2 ^ g * 2 ^ low f
    shifted =
        join j (low f + low f + 1 - zeros f) ∙ ap (λ (y : ℕ). m * 2 ^ y) e
        ∙ sym (ap (λ (y : ℕ). y * 2 ^ g * 2 ^ low f) l ∙ ap (λ (y : ℕ). y * 2 ^ low f) (join z g) ∙ join (z + g) (low f))

-- ---- a pattern's value, without a sign

small : (f : Format) (b : ℕ) → b < ones f * hid f → (leb (top f) b ≡ false) × (b % top f ≡ b)
small f b h = go f b h
  where
    go : (f : Format) (b : ℕ) → b < ones f * hid f → (leb (top f) b ≡ false) × (b % top f ≡ b)
    go binary32 b h = let l : b < top binary32 = omega arith in (is_false (leb (top binary32) b) (lt→nleb (top binary32) b l), mod-eq_of_lt l)
    go binary64 b h = let l : b < top binary64 = omega arith in (is_false (leb (top binary64) b) (lt→nleb (top binary64) b l), mod-eq_of_lt l)

pub normal_value : (f : Format) (b : ℕ) → hid f ≤ b → b < ones f * hid f →
    HasValue (of_bits f b) false ((b % hid f + hid f) * 2 ^ (b / hid f - 1)) (2 ^ low f)
unfolding of_bits
normal_value f b lo hi =
    rw ((small f b hi).0, (small f b hi).1) (fields_high f false (b / hid f) (b % hid f) (some f lo) (short f hi))
  where
    some : (f : Format) → hid f ≤ b → 0 < b / hid f
    some binary32 h = omega arith
    some binary64 h = omega arith

    short : (f : Format) → b < ones f * hid f → b / hid f ≡ ones f → ⊥
    short binary32 h e = omega arith
    short binary64 h e = omega arith

pub subnormal_value : (f : Format) (b : ℕ) → b < hid f → HasValue (of_bits f b) false (b * 2 ^ 0) (2 ^ low f)
unfolding of_bits
subnormal_value f b hi =
    let s = small f b (below f hi) in
    let d : b % hid f ≡ b = mod-eq_of_lt hi in
    let z : b / hid f ≤ 0 = le_of_eq (div-eq_of_lt hi) in
    rw (s.0, s.1, d) (fields_low f false (b / hid f) b z)
  where
    below : (f : Format) → b < hid f → b < ones f * hid f
    below binary32 h = omega arith
    below binary64 h = omega arith

-- ---- a subnormal number b that is shifted by z, its leading zeros in w places but d

pub record Brought (f : Format) (w d b z : ℕ) : Type 0 where
  pub some : d < count_leading_zeros w b
  pub few : count_leading_zeros w b < w
  pub even : b * 2 ^ z % 2 ^ w % 2 ≡ 0
  pub value : HasValue (of_bits f b) false ((b * 2 ^ z % 2 ^ w % 2 ^ wide f + 2 ^ wide f) * 2 ^ (low f + 1 - zeros f - z)) (2 ^ (low f + low f + 1 - zeros f))

pub subnormal_by : (f : Format) (w d b z : ℕ) → suc (wide f + d) ≡ w → z ≡ count_leading_zeros w b - d → 0 < b → b < hid f → Brought f w d b z
subnormal_by f w d b z W Z some hi =
    record {
      some = S.some;
      few = S.few;
      even = ap (λ (y : ℕ). y % 2) whole ∙ last f (S.clear (wide f) (le_refl (wide f)) small);
      value = value_by f (of_bits f b) b 0 z (low f + 1 - zeros f - z) (b * 2 ^ z % 2 ^ w) (subnormal_value f b hi) digits (sum f short);
    }
  where
    small : b < 2 ^ wide f
    small = lt_of_lt_of_le hi (below f)
      where
        below : (f : Format) → hid f ≤ 2 ^ wide f
        below binary32 = lit≤ tt
        below binary64 = lit≤ tt

    S : Shift w d (wide f) b z
    S = shift w d (wide f) b z W some small Z

    short : z ≤ wide f
    short = omega (arith, S.few)

    whole : b * 2 ^ z % 2 ^ w ≡ b * 2 ^ z
    whole = let wider : suc (wide f) ≤ w = omega arith in mod-eq_of_lt (lt_of_lt_of_le S.under (pow_mono wider))

    digits : b * 2 ^ z % 2 ^ w % 2 ^ wide f + 2 ^ wide f ≡ b * 2 ^ z
    digits = ap (λ (y : ℕ). y % 2 ^ wide f + 2 ^ wide f) whole ∙ leading (b * 2 ^ z) (2 ^ wide f) S.at_least (twice S.under)
      where
        twice : b * 2 ^ z < 2 ^ suc (wide f) → b * 2 ^ z < 2 ^ wide f + 2 ^ wide f
        twice h = let two : 2 ^ suc (wide f) ≡ 2 * 2 ^ wide f = pow-succ' 2 (wide f) in omega arith

    last : (f : Format) → b * 2 ^ z % 2 ^ (suc (wide f) - wide f) ≡ 0 → b * 2 ^ z % 2 ≡ 0
    last binary32 h = h
    last binary64 h = h

    sum : (f : Format) → z ≤ wide f → 0 + (low f + low f + 1 - zeros f) ≡ z + (low f + 1 - zeros f - z) + low f
    sum binary32 h = omega arith
    sum binary64 h = omega arith
