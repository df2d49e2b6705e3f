-- Signed numbers of 32 bits and their bits, back and forth. Assumes nothing.
use mathlib.Core.Path.{◌≡◌, refl, ap}
use mathlib.Core.Bool.{Bool, true, false, cond}
use Prim.Native.Nat.{ℕ, suc, ◌-◌, ◌<◌}
use native.Mathlib.Omega.{arith}
use lib.Dec.{ltb}
use lib.IntN.{ℤ, pos, negsuc}
use mir.Syntax.{w32}
use mir.Val.{SFits, to_z, of_z, sel}
use borrow.Author.Tests.{ltb-true, ltb-false, lt-ltb, le-ltb}
use Rattle.records.specs.Numbers.{pattern_of, signed_of}

-- ---- they are the casts of the code
pub signed_is : (w : ℕ) → to_z w32 w ≡ signed_of w
unfolding signed_of
signed_is w = go (ltb w 2147483648)
  where
    go : (b : Bool) → sel b (pos w) (negsuc (4294967296 - suc w)) ≡ cond b (pos w) (negsuc (4294967296 - suc w))
    go true = refl
    go false = refl

pub pattern_is : (z : ℤ) → of_z w32 z ≡ pattern_of z
pattern_is (pos n) = refl
pattern_is (negsuc n) = refl

-- ---- patterns and signed numbers, back and forth
pub pattern_below : (z : ℤ) → SFits w32 z → pattern_of z < 4294967296
pattern_below (pos n) f = omega (arith, f.sfits)
pattern_below (negsuc n) f = omega (arith, f.sfits)

pub signed_pattern : (z : ℤ) → SFits w32 z → signed_of (pattern_of z) ≡ z
unfolding signed_of
signed_pattern (pos n) f = simp (lt-ltb n 2147483648 f.sfits)
signed_pattern (negsuc n) f =
    let h : n < 2147483648 = f.sfits in
    let e : 4294967296 - suc (4294967296 - suc n) ≡ n = omega arith in
    simp (le-ltb (4294967296 - suc n) 2147483648 (omega arith)) (ap negsuc e)

pub signed_fits : (w : ℕ) → w < 4294967296 → SFits w32 (signed_of w)
unfolding signed_of
signed_fits w h = go (ltb w 2147483648) refl
  where
    go : (b : Bool) → ltb w 2147483648 ≡ b → SFits w32 (cond b (pos w) (negsuc (4294967296 - suc w)))
    go true e = record { sfits = ltb-true w 2147483648 e }
    go false e = record { sfits = omega (arith, ltb-false w 2147483648 e) }

pub pattern_signed : (w : ℕ) → w < 4294967296 → pattern_of (signed_of w) ≡ w
unfolding signed_of
pattern_signed w h = go (ltb w 2147483648) refl
  where
    go : (b : Bool) → ltb w 2147483648 ≡ b → pattern_of (cond b (pos w) (negsuc (4294967296 - suc w))) ≡ w
    go true e = refl
    go false e = omega (arith, ltb-false w 2147483648 e)
