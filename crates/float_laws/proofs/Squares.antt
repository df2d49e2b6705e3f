-- Laws on floats: a sum of two squares is never below 0, and only a NaN differs from itself. Assumes nothing.
use mathlib.Core.Path.{◌≡◌, refl}
use mathlib.Core.Bool.{Bool, true, false, not, cond}
use Prim.Native.Nat.{ℕ, zero, suc, ◌+◌, ◌*◌, ◌^◌, zero-le}
use native.Mathlib.Nat.{zero-mul}
use borrow.Author.Tests.{le-ltb, eq-eqb}
use lib.Dec.{T, ltb}
use lib.IntN.{pos}
use lib.Ieee.{Float, Format, binary32, binary64, nan, inf, fin, low, emax, prec, up, down, odd, units, round, sum, add, mul, lt, ne, is_nan, of_bits}

-- no minus sign
abbrev plain : Float → Bool
plain nan = true
plain (inf s) = not s
plain (fin s m e) = not s

odd_plain : (d q k l : ℕ) → T (plain (odd d false q k l))
unfolding odd
odd_plain d zero k l = tt
odd_plain d (suc q) k l = tt

units-plain : (f : Format) (q k : ℕ) → T (plain (units f false q k))
unfolding units
units-plain f q k = go (ltb (q * 2 ^ k) (2 ^ (low f + suc (emax f))))
  where
    go : (b : Bool) → T (plain (cond b (odd (suc (prec f)) false q k (low f)) (inf false)))
    go true = odd_plain (suc (prec f)) q k (low f)
    go false = tt

round-plain : (f : Format) (n d : ℕ) → T (plain (round f false n d))
unfolding round
round-plain f n d = units-plain f _ _

square_plain : (f : Format) (x : Float) → T (plain (mul f x x))
unfolding mul
square_plain f nan = tt
square_plain f (inf true) = tt
square_plain f (inf false) = tt
square_plain f (fin true m e) = round-plain f (m * up e * (m * up e)) (down e * down e)
square_plain f (fin false m e) = round-plain f (m * up e * (m * up e)) (down e * down e)

sum_plain : (f : Format) (x y : Float) → T (plain x) → T (plain y) → T (plain (add f x y))
unfolding add sum
sum_plain f nan y p q = tt
sum_plain f (inf true) y p q = absurd p
sum_plain f (inf false) nan p q = tt
sum_plain f (inf false) (inf true) p q = absurd q
sum_plain f (inf false) (inf false) p q = tt
sum_plain f (inf false) (fin t n d) p q = tt
sum_plain f (fin true m e) y p q = absurd p
sum_plain f (fin false m e) nan p q = tt
sum_plain f (fin false m e) (inf t) p q = q
sum_plain f (fin false m e) (fin true n d) p q = absurd q
sum_plain f (fin false m e) (fin false n d) p q = round-plain f (m * up e * down d + n * up d * down e) (down e * down d)

zero_is : (f : Format) → of_bits f 0 ≡ fin false 0 (pos 0)
unfolding of_bits
zero_is binary32 = refl
zero_is binary64 = refl

not_below : (x : Float) → T (plain x) → lt x (fin false 0 (pos 0)) ≡ false
unfolding lt
not_below nan p = refl
not_below (inf true) p = absurd p
not_below (inf false) p = refl
not_below (fin true m e) p = absurd p
not_below (fin false m e) p = le-ltb (m * up e * 1) (0 * down e) (rw zero-mul zero-le)

pub sum_of_squares : (f : Format) (x y : Float) → lt (add f (mul f x x) (mul f y y)) (of_bits f 0) ≡ false
sum_of_squares f x y = rw zero_is (not_below _ (sum_plain f (mul f x x) (mul f y y) (square_plain f x) (square_plain f y)))

pub nan_test : (x : Float) → ne x x ≡ is_nan x
unfolding ne is_nan
nan_test nan = refl
nan_test (inf true) = refl
nan_test (inf false) = refl
nan_test (fin true m e) = rw (eq-eqb (m * up e * down e) (m * up e * down e) refl)
nan_test (fin false m e) = rw (eq-eqb (m * up e * down e) (m * up e * down e) refl)
