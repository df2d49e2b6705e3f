-- Laws on sizes in thousandths: equal fractions have the same, a float has that of any fraction that it equals, and
-- what q * 2 ^ x / 2 ^ 149 comes to by x.
-- Assumes nothing.
use mathlib.Core.Path.{◌≡◌, refl, sym, ap, ◌∙◌}
use mathlib.Core.Bool.{Bool, true}
use Prim.Native.Nat.{ℕ, zero, suc, ◌+◌, ◌-◌, ◌*◌, ◌/◌, ◌^◌, ◌≤◌, ◌<◌, min}
use native.Mathlib.Nat.{mul_comm, mul_assoc, mul-one, mul-div-mul_right, mul-le-mul, div-eq_of_lt, lt_of_lt_of_le}
use native.Mathlib.Nat.{min-eq_right, sub-add_cancel, add_comm}
use native.Mathlib.Omega.{arith}
use borrow.Author.Tests.{ne_eqb}
use lib.Dec.{lit<}
use lib.Pow.{pow-add, pow_pos, pow_mono, shl_lt}
use lib.Ieee.{Float, nan, inf, fin, binary32, up, down, odd, of_fields, is_nan}
use lib.Ieee.Exact.{HasValue, odd_sign}
use lib.Ieee.Fits.{down_pos}
use Rattle.bridge_text.specs.Thousandths.{nearest_up, held_of, thousandths_of}

same_quotient : (a b c d : ℕ) → 0 < b → 0 < d → a * d ≡ c * b → a / b ≡ c / d
same_quotient a b c d p q e =
    sym (mul-div-mul_right a b q) ∙ ap (λ (y : ℕ). y / (b * d)) e ∙ ap (λ (y : ℕ). c * b / y) (mul_comm b d) ∙ mul-div-mul_right c d p

cross : (n d a c : ℕ) → n * c ≡ a * d → (2 * (1000 * n) + d) * (2 * c) ≡ (2 * (1000 * a) + c) * (2 * d)
cross n d a c h = omega arith

same-nearest : (a c b d : ℕ) → 0 < c → 0 < d → a * d ≡ b * c → nearest_up (1000 * a) c ≡ nearest_up (1000 * b) d
same-nearest a c b d p q e = same_quotient (2 * (1000 * a) + c) (2 * c) (2 * (1000 * b) + d) (2 * d) (omega arith) (omega arith) (cross a c b d e)

pub of_nan : (x : Float) → is_nan x ≡ true → 1000000000000 ≡ thousandths_of x
unfolding thousandths_of is_nan
of_nan nan e = refl
of_nan (inf t) e = cc
of_nan (fin t m k) e = cc

pub of_value : (x : Float) (s : Bool) (a c : ℕ) → 0 < c → HasValue x s a c → thousandths_of x ≡ held_of a c
unfolding thousandths_of is_nan
of_value nan s a c p v = absurd v
of_value (inf t) s a c p v = absurd v
of_value (fin t m e) s a c p v = ap (λ (y : ℕ). min y 1000000000000) (same-nearest (m * up e) (down e) a c (down_pos e) p v.1)

whole_is : (n : ℕ) → nearest_up (1000 * n) 1 ≡ 1000 * n
whole_is n = omega arith

pub left : (q x : ℕ) → 149 ≤ x → nearest_up (1000 * (q * 2 ^ x)) (2 ^ 149) ≡ 1000 * (q * 2 ^ (x - 149))
left q x h =
    let e : 2 ^ (x - 149) * 2 ^ 149 ≡ 2 ^ x = sym (pow-add 2 (x - 149) 149) ∙ ap (λ (y : ℕ). 2 ^ y) (sub-add_cancel h) in
    same-nearest (q * 2 ^ x) (2 ^ 149) (q * 2 ^ (x - 149)) 1 (pow_pos 149) (lit< tt)
    (mul-one (q * 2 ^ x) ∙ ap (λ (y : ℕ). q * y) (sym e) ∙ sym (mul_assoc q (2 ^ (x - 149)) (2 ^ 149)))
    ∙ whole_is (q * 2 ^ (x - 149))

pub right : (q x : ℕ) → x ≤ 149 → nearest_up (1000 * (q * 2 ^ x)) (2 ^ 149) ≡ nearest_up (1000 * q) (2 ^ (149 - x))
right q x h =
    let z : x + (149 - x) ≡ 149 = omega arith in
    same-nearest (q * 2 ^ x) (2 ^ 149) q (2 ^ (149 - x)) (pow_pos 149) (pow_pos (149 - x))
    (mul_assoc q (2 ^ x) (2 ^ (149 - x)) ∙ ap (λ (y : ℕ). q * y) (sym (pow-add 2 x (149 - x)) ∙ ap (λ (y : ℕ). 2 ^ y) z))

pub much : (q x : ℕ) → 2 ^ 23 ≤ q → 164 < x → held_of (q * 2 ^ x) (2 ^ 149) ≡ 1000000000000
much q x h g =
    let j : 16 ≤ x - 149 = omega arith in
    let big : 2 ^ 23 * 2 ^ 16 ≤ q * 2 ^ (x - 149) = mul-le-mul h (pow_mono j) in
    let n : 1000000000000 ≤ 1000 * (q * 2 ^ (x - 149)) = omega arith in
    ap (λ (y : ℕ). min y 1000000000000) (left q x (omega arith)) ∙ min-eq_right n

pub little : (q x : ℕ) → q < 2 ^ 24 → x < 109 → held_of (q * 2 ^ x) (2 ^ 149) ≡ 0
little q x h g =
    let k : 40 ≤ 149 - x = omega arith in
    let big : 2 ^ 40 ≤ 2 ^ (149 - x) = pow_mono k in
    let n : 2 * (1000 * q) + 2 ^ (149 - x) < 2 * 2 ^ (149 - x) = omega arith in
    ap (λ (y : ℕ). min y 1000000000000) (right q x (omega arith) ∙ div-eq_of_lt n)

pub shifted : (q j : ℕ) → q < 2 ^ 24 → j < 16 → q * 2 ^ j < 2 ^ 40
shifted q j h g = lt_of_lt_of_le (shl_lt 24 j h) (pow_mono {j = 40} (omega arith))

-- ---- the fields of a pattern: the exponent's, and the digits t

pub of_low : (s : Bool) (x t : ℕ) → x ≡ 0 → thousandths_of (of_fields binary32 s x t) ≡ held_of (t * 2 ^ 0) (2 ^ 149)
unfolding of_fields
of_low s x t e = rw e (of_value (odd 24 s t 0 149) s (t * 2 ^ 0) (2 ^ 149) (pow_pos 149) (odd_sign 24 s t 0 149))

pub of_high : (s : Bool) (x t : ℕ) → (x ≡ 0 → ⊥) → (x ≡ 255 → ⊥) →
    thousandths_of (of_fields binary32 s x t) ≡ held_of ((t + 2 ^ 23) * 2 ^ (x - 1)) (2 ^ 149)
unfolding of_fields
of_high s zero t p n = absurd (p refl)
of_high s (suc x) t p n =
    let e : suc x - 1 ≡ x = omega arith in
    rw (ne_eqb (suc x) 255 n, e, add_comm t (2 ^ 23))
    (of_value (odd 24 s (2 ^ 23 + t) x 149) s ((2 ^ 23 + t) * 2 ^ x) (2 ^ 149) (pow_pos 149) (odd_sign 24 s (2 ^ 23 + t) x 149))
