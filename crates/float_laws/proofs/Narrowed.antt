-- Laws over a format, on `round_to`, and so on `narrow_of`: its result fits, it leaves what fits as it is, it commutes with negation, and
-- it keeps order. Assumes nothing.
use mathlib.Core.Path.{◌≡◌, refl, sym, ap, ◌∙◌, subst}
use mathlib.Core.Bool.{Bool, true, false, not, cond}
use Prim.Native.Nat.{ℕ, zero, suc, ◌+◌, ◌*◌, ◌^◌, ◌<◌, zero-le}
use native.Mathlib.Nat.{le_trans, le_of_eq, zero-mul, zero-lt-suc, add_comm}
use lib.Dec.{T, ltb}
use lib.IntN.{ℤ, pos}
use lib.Ieee.{Float, nan, inf, fin, Format, binary32, binary64, prec, emax, low, up, down, odd, units, round, fits, neg, le, is_nan}
use lib.Ieee.Fits.{down_pos, nan-fits, inf-fits, round-fits, round_is}
use lib.Ieee.Order.{round_mono}
use lib.Ieee.Scale.{round_same}
use Rattle.float_laws.specs.Narrow.{round_to}
use Rattle.float_laws.proofs.Order.{LeF, le→, le_trans_float}
use Rattle.float_laws.proofs.Sides.{is_not_more, signed, ranked, versus, le_is}
use Rattle.float_laws.proofs.Values.{round_own}

pub round_to-fits : (f : Format) (x : Float) → T (fits f (round_to f x))
unfolding round_to
round_to-fits f nan = nan-fits f
round_to-fits f (inf s) = inf-fits f s
round_to-fits f (fin s m e) = round-fits f s (m * up e) (down e)

-- rounding what the format holds changes nothing
pub round-held : (f : Format) (x : Float) → T (fits f x) → round_to f x ≡ x
unfolding round_to
round-held f nan F = refl
round-held f (inf s) F = refl
round-held f (fin s m e) F = round_own f s m e F

-- ---- negation

neg_odd : (d : ℕ) (s : Bool) (q k l : ℕ) → odd d (not s) q k l ≡ neg (odd d s q k l)
unfolding odd neg
neg_odd d s zero k l = refl
neg_odd d s (suc q) k l = refl

neg_units : (f : Format) (s : Bool) (q k : ℕ) → units f (not s) q k ≡ neg (units f s q k)
unfolding units neg
neg_units f s q k = go (ltb (q * 2 ^ k) (2 ^ (low f + suc (emax f))))
  where
    go : (b : Bool) → cond b (odd (suc (prec f)) (not s) q k (low f)) (inf (not s)) ≡ neg (cond b (odd (suc (prec f)) s q k (low f)) (inf s))
    go true = neg_odd (suc (prec f)) s q k (low f)
    go false = refl

pub neg_round : (f : Format) (s : Bool) (a c : ℕ) → round f (not s) a c ≡ neg (round f s a c)
neg_round f s a c = round_is f (not s) a c ∙ neg_units f s _ _ ∙ sym (ap neg (round_is f s a c))

pub round_neg : (f : Format) (x : Float) → round_to f (neg x) ≡ neg (round_to f x)
unfolding round_to neg
round_neg f nan = refl
round_neg f (inf s) = refl
round_neg f (fin s m e) = neg_round f s (m * up e) (down e)

-- ---- order

neg_ranked : (s t : Bool) (a b : ℕ) → ranked (not s) a (not t) b ≡ ranked t b s a
neg_ranked false false a b = refl
neg_ranked false true a b = ap (signed true) (add_comm a b)
neg_ranked true false a b = ap (signed false) (add_comm a b)
neg_ranked true true a b = refl

neg_versus : (x y : Float) → versus (neg x) (neg y) ≡ versus y x
unfolding neg
neg_versus nan nan = refl
neg_versus nan (inf t) = refl
neg_versus nan (fin t n d) = refl
neg_versus (inf s) nan = refl
neg_versus (inf true) (inf true) = refl
neg_versus (inf true) (inf false) = refl
neg_versus (inf false) (inf true) = refl
neg_versus (inf false) (inf false) = refl
neg_versus (inf s) (fin t n d) = refl
neg_versus (fin s m e) nan = refl
neg_versus (fin s m e) (inf true) = refl
neg_versus (fin s m e) (inf false) = refl
neg_versus (fin s m e) (fin t n d) = neg_ranked s t (m * up e * down d) (n * up d * down e)

pub le_neg : (x y : Float) → T (le y x) → T (le (neg x) (neg y))
le_neg x y h = subst T (le_is y x ∙ ap is_not_more (sym (neg_versus x y)) ∙ sym (le_is (neg x) (neg y))) h

-- the two zeros, and what lies on either side of them
pub zero_is : (f : Format) (s : Bool) → round f s 0 1 ≡ fin s 0 (pos 0)
unfolding round
zero_is binary32 true = refl
zero_is binary32 false = refl
zero_is binary64 true = refl
zero_is binary64 false = refl

zeros_equal : (s t : Bool) → T (le (fin s 0 (pos 0)) (fin t 0 (pos 0)))
unfolding le
zeros_equal true true = tt
zeros_equal true false = tt
zeros_equal false true = tt
zeros_equal false false = tt

from_zero : (f : Format) (a c : ℕ) → 0 < c → T (le (fin false 0 (pos 0)) (round f false a c))
from_zero f a c C =
    subst (λ (z : Float). T (le z (round f false a c))) (zero_is f false)
    (round_mono f 0 1 a c (zero-lt-suc 0) C (le_trans (le_of_eq (zero-mul c)) zero-le))

to_zero : (f : Format) (a c : ℕ) → 0 < c → T (le (round f true a c) (fin true 0 (pos 0)))
unfolding neg
to_zero f a c C =
    subst (λ (z : Float). T (le z (fin true 0 (pos 0)))) (sym (neg_round f false a c))
    (le_neg (round f false a c) (fin false 0 (pos 0)) (from_zero f a c C))

none : (f : Format) (s : Bool) (a c : ℕ) → 0 < c → a ≡ 0 → round f s a c ≡ fin s 0 (pos 0)
none f s a c C e = ap (λ (z : ℕ). round f s z c) e ∙ round_same f s 0 c 0 1 C (zero-lt-suc 0) (zero-mul 1 ∙ sym (zero-mul c)) ∙ zero_is f s

pub round_order : (f : Format) (s t : Bool) (M p N q : ℕ) → 0 < p → 0 < q → LeF s M p t N q → T (le (round f s M p) (round f t N q))
round_order f false false M p N q P Q h = round_mono f M p N q P Q h
round_order f false true M p N q P Q h = rw (none f false M p P h.0, none f true N q Q h.1) (zeros_equal false true)
round_order f true false M p N q P Q h =
    le_trans_float (round f true M p) (fin true 0 (pos 0)) (round f false N q) (to_zero f M p P)
    (le_trans_float (fin true 0 (pos 0)) (fin false 0 (pos 0)) (round f false N q) (zeros_equal true false) (from_zero f N q Q))
round_order f true true M p N q P Q h =
    rw (neg_round f false M p, neg_round f false N q) (le_neg (round f false M p) (round f false N q) (round_mono f N q M p Q P h))

not_nan : (x y : Float) → T (le x y) → T (not (is_nan x)) × T (not (is_nan y))
unfolding is_nan le
not_nan nan y h = absurd h
not_nan (inf s) nan h = absurd h
not_nan (inf s) (inf t) h = (tt, tt)
not_nan (inf s) (fin t n d) h = (tt, tt)
not_nan (fin s m e) nan h = absurd h
not_nan (fin s m e) (inf t) h = (tt, tt)
not_nan (fin s m e) (fin t n d) h = (tt, tt)

number : (f : Format) (s : Bool) (a c : ℕ) → 0 < c → T (not (is_nan (round f s a c)))
number f false a c C = (not_nan (fin false 0 (pos 0)) (round f false a c) (from_zero f a c C)).1
number f true a c C = (not_nan (round f true a c) (fin true 0 (pos 0)) (to_zero f a c C)).0

lowest : (x : Float) → T (not (is_nan x)) → T (le (inf true) x)
unfolding is_nan le
lowest nan h = absurd h
lowest (inf true) h = tt
lowest (inf false) h = tt
lowest (fin s m e) h = tt

highest : (x : Float) → T (not (is_nan x)) → T (le x (inf false))
unfolding is_nan le
highest nan h = absurd h
highest (inf true) h = tt
highest (inf false) h = tt
highest (fin s m e) h = tt

no_end : (t : Bool) (n : ℕ) (d : ℤ) → T (le (inf false) (fin t n d)) → ⊥
unfolding le
no_end t n d h = h

no_start : (s : Bool) (m : ℕ) (e : ℤ) → T (le (fin s m e) (inf true)) → ⊥
unfolding le
no_start s m e h = h

pub round_keeps_order : (f : Format) (x y : Float) → T (le x y) → T (le (round_to f x) (round_to f y))
unfolding round_to is_nan
round_keeps_order f nan y h = absurd (not_nan nan y h).0
round_keeps_order f (inf s) nan h = absurd (not_nan (inf s) nan h).1
round_keeps_order f (inf s) (inf t) h = h
round_keeps_order f (inf true) (fin t n d) h = lowest (round f t (n * up d) (down d)) (number f t (n * up d) (down d) (down_pos d))
round_keeps_order f (inf false) (fin t n d) h = absurd (no_end t n d h)
round_keeps_order f (fin s m e) nan h = absurd (not_nan (fin s m e) nan h).1
round_keeps_order f (fin s m e) (inf true) h = absurd (no_start s m e h)
round_keeps_order f (fin s m e) (inf false) h = highest (round f s (m * up e) (down e)) (number f s (m * up e) (down e) (down_pos e))
round_keeps_order f (fin s m e) (fin t n d) h =
    round_order f s t (m * up e) (down e) (n * up d) (down d) (down_pos e) (down_pos d) (le→ s m e t n d h)
