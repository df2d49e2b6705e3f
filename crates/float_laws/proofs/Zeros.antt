-- No comparison sees a zero's sign: floats that are the same but for that compare alike with everything. Assumes nothing.
use mathlib.Core.Path.{◌≡◌, refl, sym, ap, ◌∙◌}
use mathlib.Core.Bool.{Bool, true, false}
use Prim.Native.Nat.{ℕ, zero, suc, ◌*◌, compare, Ordering}
use native.Mathlib.Nat.{zero-mul, zero-add, add-zero, lt_irrefl}
use native.Mathlib.Omega.{arith}
use lib.Ieee.{Float, nan, inf, fin, up, down, lt, eq, le, of_bits}
use lib.Ieee.Scale.{finite}
use Rattle.float_laws.specs.Formula.{zero32, minus_zero32}
use Rattle.float_laws.specs.Zeros.{unsigned_zero, SameNumber}
use Rattle.float_laws.proofs.Rounding.{Cmp, cmp}
use Rattle.float_laws.proofs.Sides.{side_of, signed, ranked, versus, is_less, is_same, is_not_more, lt_is, eq_is, le_is}

pub both_zeros : SameNumber minus_zero32 zero32
unfolding of_bits unsigned_zero
both_zeros = refl

-- ---- a zero against ±b, and ±a against a zero
from_zero : (b : ℕ) → side_of (compare 0 b) ≡ signed true b
from_zero b = go b (compare 0 b) (cmp 0 b)
  where
    go : (b : ℕ) (o : Ordering) → Cmp o 0 b → side_of o ≡ signed true b
    go zero Ordering.lt h = absurd (lt_irrefl 0 h)
    go (suc b) Ordering.lt h = refl
    go b Ordering.eq h = rw (← h) refl
    go b Ordering.gt h = absurd (omega arith)

to_zero : (a : ℕ) → side_of (compare a 0) ≡ signed false a
to_zero a = go a (compare a 0) (cmp a 0)
  where
    go : (a : ℕ) (o : Ordering) → Cmp o a 0 → side_of o ≡ signed false a
    go a Ordering.lt h = absurd (omega arith)
    go a Ordering.eq h = rw h refl
    go zero Ordering.gt h = absurd (lt_irrefl 0 h)
    go (suc a) Ordering.gt h = refl

zero_first : (s t : Bool) (b : ℕ) → ranked false 0 t b ≡ ranked s 0 t b
zero_first false t b = refl
zero_first true false b = rw (zero-add b) (from_zero b)
zero_first true true b = rw (zero-add b) (sym (to_zero b))

zero_last : (s t : Bool) (a : ℕ) → ranked s a false 0 ≡ ranked s a t 0
zero_last s false a = refl
zero_last false true a = rw (add-zero a) (to_zero a)
zero_last true true a = rw (add-zero a) (sym (from_zero a))

unsigned_first : (x y : Float) → versus (unsigned_zero x) y ≡ versus x y
unfolding unsigned_zero
unsigned_first nan y = refl
unsigned_first (inf s) y = refl
unsigned_first (fin s (suc m) e) y = refl
unsigned_first (fin s zero e) nan = refl
unsigned_first (fin s zero e) (inf t) = refl
unsigned_first (fin s zero e) (fin t n d) = rw (zero-mul (up e), zero-mul (down d)) (zero_first s t (n * up d * down e))

unsigned_last : (x y : Float) → versus x (unsigned_zero y) ≡ versus x y
unfolding unsigned_zero
unsigned_last x nan = refl
unsigned_last x (inf s) = refl
unsigned_last x (fin t (suc n) d) = refl
unsigned_last nan (fin t zero d) = refl
unsigned_last (inf s) (fin t zero d) = refl
unsigned_last (fin s m e) (fin t zero d) = rw (zero-mul (up d), zero-mul (down e)) (zero_last s t (m * up e * down d))

unsigned : (x y : Float) → versus (unsigned_zero x) (unsigned_zero y) ≡ versus x y
unsigned x y = unsigned_first x (unsigned_zero y) ∙ unsigned_last x y

versus_alike : (x y x₁ y₁ : Float) → SameNumber x x₁ → SameNumber y y₁ → versus x y ≡ versus x₁ y₁
versus_alike x y x₁ y₁ p q = sym (unsigned x y) ∙ rw (p, q) (unsigned x₁ y₁)

pub lt_alike : (x y x₁ y₁ : Float) → SameNumber x x₁ → SameNumber y y₁ → lt x y ≡ lt x₁ y₁
lt_alike x y x₁ y₁ p q = lt_is x y ∙ ap is_less (versus_alike x y x₁ y₁ p q) ∙ sym (lt_is x₁ y₁)

pub eq_alike : (x y x₁ y₁ : Float) → SameNumber x x₁ → SameNumber y y₁ → eq x y ≡ eq x₁ y₁
eq_alike x y x₁ y₁ p q = eq_is x y ∙ ap is_same (versus_alike x y x₁ y₁ p q) ∙ sym (eq_is x₁ y₁)

pub le_alike : (x y x₁ y₁ : Float) → SameNumber x x₁ → SameNumber y y₁ → le x y ≡ le x₁ y₁
le_alike x y x₁ y₁ p q = le_is x y ∙ ap is_not_more (versus_alike x y x₁ y₁ p q) ∙ sym (le_is x₁ y₁)

unsigned-finite : (x : Float) → finite (unsigned_zero x) ≡ finite x
unfolding unsigned_zero
unsigned-finite nan = refl
unsigned-finite (inf s) = refl
unsigned-finite (fin s zero e) = refl
unsigned-finite (fin s (suc m) e) = refl

pub finite-alike : (x x₁ : Float) → SameNumber x x₁ → finite x ≡ finite x₁
finite-alike x x₁ p = sym (unsigned-finite x) ∙ ap finite p ∙ unsigned-finite x₁
