-- The exact test speaks of numbers: it answers alike for both zeros, in each of its three places. Assumes nothing.
use mathlib.Core.Path.{◌≡◌, refl}
use lib.Ieee.{Float}
use Rattle.float_laws.specs.Formula.{zero32, minus_zero32}
use Rattle.float_laws.specs.Zeros.{SameNumber}
use Rattle.float_laws.proofs.Zeros.{both_zeros, le_alike}
use Rattle.conic.specs.Between.{exact_test}

pub exact_alike : (a b c a₁ b₁ c₁ : Float) → SameNumber a a₁ → SameNumber b b₁ → SameNumber c c₁ → exact_test a b c ≡ exact_test a₁ b₁ c₁
exact_alike a b c a₁ b₁ c₁ p q r = rw (le_alike a b a₁ b₁ p q, le_alike b c b₁ c₁ q r, le_alike b a b₁ a₁ q p, le_alike c b c₁ b₁ r q)

pub exact_at_start : (b c : Float) → exact_test minus_zero32 b c ≡ exact_test zero32 b c
exact_at_start b c = exact_alike minus_zero32 b c zero32 b c both_zeros refl refl

pub exact_at_middle : (a c : Float) → exact_test a minus_zero32 c ≡ exact_test a zero32 c
exact_at_middle a c = exact_alike a minus_zero32 c a zero32 c refl both_zeros refl

pub exact_at_end : (a b : Float) → exact_test a b minus_zero32 ≡ exact_test a b zero32
exact_at_end a b = exact_alike a b minus_zero32 a b zero32 refl refl both_zeros
