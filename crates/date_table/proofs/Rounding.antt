-- A float from 0 to 2 to the 24th: what the kit's cast asks, what it gives, and the laws of rounding down. Assumes nothing.
use Rattle.std.proofs.Common.{◌≡◌, ℕ, ◌+◌, ◌-◌, ◌*◌, ◌/◌, ◌^◌, ◌<◌, ◌≤◌, min, Bool, true, false, ◌&&◌, ◌||◌, T, eqb, ltb, leb, pos, sym, ◌∙◌, le_of_eq, le-div_iff_mul-le, div-mul-le_self, arith, ltb-true, lt-ltb, eqb-true, le-leb}
use mathlib.Core.Path.{subst⁻¹}
use native.Mathlib.Nat.{div-le_of_le-mul, zero-div}
use borrow.Author.Tests.{lt-leb}
use lib.Ieee.{Float, nan, inf, fin, up, down, lt, eq, le, to_unsigned}
use lib.Ieee.Bits.{is_true}
use lib.Ieee.Positive.{num, den, den_pos, through}
use Rattle.date_table.specs.Laws.{RoundedDown, RoundingKeepsOrder}
use Rattle.date_table.specs.Whole.{max_entry, in_range, whole_of, LargestNotAbove}
use Rattle.date_table.proofs.Dates.{absurd_0}
use Rattle.date_table.proofs.Walk.{by_cases, and_parts}

pub record Inside (x : Float) : Type 0 where
  pub above : lt (fin true 1 (pos 0)) x ≡ true
  pub below : lt x (fin false 1 (pos 64)) ≡ true
  pub most : num x ≤ max_entry * den x
  pub cut : to_unsigned 64 x ≡ num x / den x

either : (a b : Bool) → (a || b) ≡ true → (a ≡ false → b ≡ true)
either true b h z = absurd_0 (cc)
either false b h z = h

at_most : (a b : ℕ) (s : Bool) → (ltb a b || (eqb a b && s)) ≡ true → a ≤ b
at_most a b s h =
    by_cases (ltb a b)
    (λ t. omega (arith, ltb-true a b t))
    (λ t. omega (arith, eqb-true a b (and_parts (eqb a b) s (either (ltb a b) (eqb a b && s) h t)).0))

quotient_most : (a d : ℕ) → a ≤ max_entry * d → a / d ≤ max_entry
quotient_most a d h = let k : a ≤ d * 16777216 = omega arith in div-le_of_le-mul d k

not_negative : (a d : ℕ) → 0 < d → (ltb (a * 1) (1 * 2 ^ 24 * d) || (eqb (a * 1) (1 * 2 ^ 24 * d) && true)) ≡ true
    → (ltb 0 (1 * 2 ^ 0 * d + a * 1) ≡ true) × (ltb (a * 1) (1 * 2 ^ 64 * d) ≡ true) × (a ≤ 16777216 * d) × (min (a / d) (2 ^ 64 - 1) ≡ a / d)
not_negative a d z h =
    let k : a * 1 ≤ 1 * 2 ^ 24 * d = at_most (a * 1) (1 * 2 ^ 24 * d) true h in
    let m : a ≤ 16777216 * d = omega arith in
    let q : a / d ≤ 16777216 = quotient_most a d m in
    (lt-ltb 0 (1 * 2 ^ 0 * d + a * 1) (omega arith), lt-ltb (a * 1) (1 * 2 ^ 64 * d) (omega arith), m, omega arith)

is_zero : (a d : ℕ) → (eqb (0 * 2 ^ 0 * d) (a * 1) && eqb (0 * 2 ^ 0 * d) 0) ≡ true → a ≡ 0
is_zero a d h = let k = eqb-true (0 * 2 ^ 0 * d) (a * 1) (and_parts (eqb (0 * 2 ^ 0 * d) (a * 1)) (eqb (0 * 2 ^ 0 * d) 0) h).0 in omega arith

minus-zero : (a d : ℕ) → 0 < d → (eqb (0 * 2 ^ 0 * d) (a * 1) && eqb (0 * 2 ^ 0 * d) 0) ≡ true
    → (ltb (a * 1) (1 * 2 ^ 0 * d) ≡ true) × (ltb 0 (a * 1 + 1 * 2 ^ 64 * d) ≡ true) × (a ≤ 16777216 * d) × (0 ≡ a / d)
minus-zero a d z h =
    let e : a ≡ 0 = is_zero a d h in
    (lt-ltb (a * 1) (1 * 2 ^ 0 * d) (omega arith), lt-ltb 0 (a * 1 + 1 * 2 ^ 64 * d) (omega arith), omega arith, rw e (sym (zero-div d)))

pub inside : (x : Float) → in_range x ≡ true → Inside x
unfolding in_range le lt eq to_unsigned
inside nan h = absurd_0 (cc)
inside (inf true) h = absurd_0 (cc)
inside (inf false) h = absurd_0 (cc)
inside (fin false m e) h =
    let p = and_parts (le (fin false 0 (pos 0)) (fin false m e)) (le (fin false m e) (fin false 1 (pos 24))) h in
    let q = not_negative (m * up e) (down e) (den_pos (fin false m e)) p.1 in
    record { above = q.0; below = q.1; most = q.2; cut = q.3 }
inside (fin true m e) h =
    let p = and_parts (le (fin false 0 (pos 0)) (fin true m e)) (le (fin true m e) (fin false 1 (pos 24))) h in
    let q = minus-zero (m * up e) (down e) (den_pos (fin true m e)) p.0 in
    record { above = q.0; below = q.1; most = q.2; cut = q.3 }

-- ---- rounded down, by the test
pub whole_in : (x : Float) → in_range x ≡ true → whole_of x ≡ num x / den x
unfolding whole_of
whole_in x h = rw h

pub whole_out : (x : Float) → in_range x ≡ false → whole_of x ≡ max_entry + 1
unfolding whole_of
whole_out x h = rw h

pub whole_most : (x : Float) → in_range x ≡ true → whole_of x ≤ max_entry
whole_most x h = rw (whole_in x h) (quotient_most (num x) (den x) (inside x h).most)

-- a table may hold it exactly where the float is in range
pub whole_within : (x : Float) → leb (whole_of x) max_entry ≡ in_range x
whole_within x =
    by_cases (in_range x)
    (λ t. le-leb (whole_of x) max_entry (whole_most x t) ∙ sym t)
    (λ t. lt-leb (whole_of x) max_entry (let e = whole_out x t in omega arith) ∙ sym t)

-- what it means: the quotient is the largest
pub rounded_down : RoundedDown
rounded_down x t =
    let q = whole_in x (is_true (in_range x) t) in
    let z = den_pos x in
    record { not_above = rw q (div-mul-le_self (num x) (den x)); largest = λ k le'. rw q ((le-div_iff_mul-le z).1 le') }

-- the number and what it means
pub rounded : (x : Float) (n : ℕ) → n ≡ whole_of x → (n ≡ whole_of x) × (T (in_range x) → LargestNotAbove x n)
rounded x n e = (e, λ t. subst⁻¹ (LargestNotAbove x) e (rounded_down x t))

-- ---- a later time is not rounded to an earlier
crossed : (x y : Float) → in_range x ≡ true → in_range y ≡ true → le x y ≡ true → num x * den y ≤ num y * den x
unfolding in_range le lt eq
crossed nan y h k t = absurd_0 (cc)
crossed (inf true) y h k t = absurd_0 (cc)
crossed (inf false) y h k t = absurd_0 (cc)
crossed (fin s m e) nan h k t = absurd_0 (cc)
crossed (fin s m e) (inf true) h k t = absurd_0 (cc)
crossed (fin s m e) (inf false) h k t = absurd_0 (cc)
crossed (fin false m e) (fin false n d) h k t = at_most (m * up e * down d) (n * up d * down e) true t
crossed (fin false m e) (fin true n d) h k t =
    le_of_eq (eqb-true (m * up e * down d) (n * up d * down e) (and_parts (eqb (m * up e * down d) (n * up d * down e)) (eqb (m * up e * down d) 0) t).0)
crossed (fin true m e) (fin t n d) h k _ =
    let p = and_parts (le (fin false 0 (pos 0)) (fin true m e)) (le (fin true m e) (fin false 1 (pos 24))) h in
    let z : m * up e ≡ 0 = is_zero (m * up e) (down e) p.0 in
    rw z (omega arith)

pub order_kept : RoundingKeepsOrder
order_kept x y h i t =
    let a = rounded_down x h in
    let b = rounded_down y i in
    let n = whole_of x in
    let p : n * den x ≤ num x * 1 = omega (arith, a.not_above) in
    let q : n * den y ≤ num y * 1 =
    through n (num x) (num y) 1 (den x) (den y) (den_pos x) p (crossed x y (is_true (in_range x) h) (is_true (in_range y) i) (is_true (le x y) t)) in
    b.largest n (omega arith)
