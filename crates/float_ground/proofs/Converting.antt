-- Laws over a format: a value rounded, and the patterns of a sign and the rest. Assumes nothing.
use mathlib.Core.Path.{◌≡◌, refl, sym, ap, ◌∙◌}
use mathlib.Core.Bool.{Bool, true, false, not, cond}
use Prim.Native.Nat.{ℕ, ◌+◌, ◌*◌, ◌≤◌, ◌<◌}
use native.Mathlib.Omega.{arith}
use lib.IntN.{pos}
use lib.Dec.{T}
use lib.Ieee.{Float, nan, nan_bits, inf, fin, Format, binary32, binary64, up, down, round, hid, ones, top, of_bits}
use lib.Ieee.Fits.{down_pos}
use lib.Ieee.Exact.{HasValue}
use lib.Ieee.Scale.{round_same}
use Rattle.float_laws.specs.Narrow.{round_to}
use Rattle.float_laws.proofs.Patterns.{plain_pattern}

-- ---- by a value

pub round_to_val : (f : Format) (x : Float) (s : Bool) (a c : ℕ) → 0 < c → HasValue x s a c → round_to f x ≡ round f s a c
unfolding round_to
round_to_val f nan s a c C h = absurd h
round_to_val f (inf t) s a c C h = absurd h
round_to_val f (fin t m e) s a c C h = round_same f t (m * up e) (down e) a c (down_pos e) C h.1 ∙ ap (λ (b : Bool). round f b a c) h.0

-- ---- the patterns

pub plain : (f : Format) (s : Bool) (r : ℕ) → r ≤ ones f * hid f →
    T (not (nan_bits f (cond s (top f) 0 + r))) × (cond s (top f) 0 + r < 2 * top f)
plain f s r h = (plain_pattern f s r h, room f s h)
  where
    room : (f : Format) (s : Bool) → r ≤ ones f * hid f → cond s (top f) 0 + r < 2 * top f
    room binary32 true h = omega arith
    room binary32 false h = omega arith
    room binary64 true h = omega arith
    room binary64 false h = omega arith

-- a zero of either sign
pub zero_bits : (f : Format) (s : Bool) → of_bits f (cond s (top f) 0 + 0) ≡ fin s 0 (pos 0)
unfolding of_bits
zero_bits binary32 true = refl
zero_bits binary32 false = refl
zero_bits binary64 true = refl
zero_bits binary64 false = refl

round-zero : (f : Format) (s : Bool) → round_to f (fin s 0 (pos 0)) ≡ fin s 0 (pos 0)
unfolding round_to
round-zero binary32 true = refl
round-zero binary32 false = refl
round-zero binary64 true = refl
round-zero binary64 false = refl

-- ---- what is rounded to itself

pub rounded_nan : (f : Format) (x : Float) → x ≡ nan → nan ≡ round_to f x
unfolding round_to
rounded_nan f x e = sym (ap (round_to f) e)

pub rounded_zero : (f : Format) (s : Bool) (x : Float) → x ≡ fin s 0 (pos 0) → of_bits f (cond s (top f) 0 + 0) ≡ round_to f x
rounded_zero f s x e = zero_bits f s ∙ sym (ap (round_to f) e ∙ round-zero f s)
