-- Laws over a format, on the sign of a pattern: a pattern with its sign taken away is read as the absolute value. And what `x != x` and
-- 0.0 / 0.0 say. Assumes nothing.
use mathlib.Core.Path.{◌≡◌, refl, sym, ap, ◌∙◌}
use mathlib.Core.Bool.{Bool, true, false, not, cond, ◌&&◌, true≢false}
use Prim.Native.Nat.{ℕ, zero, suc, ◌+◌, ◌-◌, ◌*◌, ◌/◌, ◌%◌, ◌<◌}
use native.Mathlib.Nat.{mod-lt, mod-mod, mod-mod_of_dvd, mul-pos, dvd-mul_right, zero-lt-suc}
use lib.Dec.{T, leb, eqb}
use lib.Arith.{lt→nleb}
use lib.Pow.{pow_pos}
use lib.Ieee.{Float, nan, inf, fin, Format, binary32, binary64, prec, low, odd, hid, ones, top, of_fields, of_bits, lt, div, ne, is_nan}
use lib.Ieee.Bits.{is_false}
use lib.Ieee.Scale.{finite}
use Rattle.float_laws.specs.Absolute.{abs_of}

abs_odd : (d : ℕ) (s : Bool) (q k l : ℕ) → abs_of (odd d s q k l) ≡ odd d false q k l
unfolding abs_of odd
abs_odd d s zero k l = refl
abs_odd d s (suc q) k l = refl

abs_fields : (f : Format) (s : Bool) (x t : ℕ) → abs_of (of_fields f s x t) ≡ of_fields f false x t
unfolding of_fields abs_of
abs_fields f s zero t = abs_odd (prec f) s t 0 (low f)
abs_fields f s (suc x) t = go (eqb (suc x) (ones f)) (eqb t 0)
  where
    go : (b c : Bool) → abs_of (cond b (cond c (inf s) nan) (odd (prec f) s (hid f + t) x (low f))) ≡ cond b
        (cond c (inf false) nan) (odd (prec f) false (hid f + t) x (low f))
    go true true = refl
    go true false = refl
    go false c = abs_odd (prec f) s (hid f + t) x (low f)

pub abs_bits : (f : Format) (b : ℕ) → of_bits f (b % top f) ≡ abs_of (of_bits f b)
unfolding of_bits
abs_bits f b =
    let P : 0 < top f = mul-pos (pow_pos (prec f - 1)) (zero-lt-suc (ones f)) in
    ap (λ (s : Bool). of_fields f s (b % top f % top f / hid f) (b % top f % hid f))
    (is_false (leb (top f) (b % top f)) (lt→nleb (top f) (b % top f) (mod-lt b P)))
    ∙ ap (λ (x : ℕ). of_fields f false (x / hid f) (b % top f % hid f)) (mod-mod b (top f))
    ∙ ap (λ (x : ℕ). of_fields f false (b % top f / hid f) x) (mod-mod_of_dvd (hid f) b (dvd-mul_right (hid f) (suc (ones f))))
    ∙ sym (abs_fields f (leb (top f) b) (b % top f / hid f) (b % hid f))

-- between the infinities
pub inside : (x : Float) → (lt (inf true) x && lt x (inf false)) ≡ finite x
unfolding lt
inside nan = refl
inside (inf true) = refl
inside (inf false) = refl
inside (fin s m e) = refl

pub infinite : (f : Format) (s : Bool) → of_bits f (cond s (top f) 0 + ones f * hid f) ≡ inf s
unfolding of_bits
infinite binary32 true = refl
infinite binary32 false = refl
infinite binary64 true = refl
infinite binary64 false = refl

pub nan_by_zero : (f : Format) → div f (of_bits f 0) (of_bits f 0) ≡ nan
unfolding div of_bits
nan_by_zero binary32 = refl
nan_by_zero binary64 = refl

-- a float that equals itself is no NaN
pub equals_itself : (x : Float) → ne x x ≡ false → T (not (is_nan x))
unfolding ne is_nan
equals_itself nan h = absurd (true≢false h)
equals_itself (inf s) h = tt
equals_itself (fin s m e) h = tt
