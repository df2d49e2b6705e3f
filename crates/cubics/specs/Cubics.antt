-- What the contracts of the cubic's calls cite: the Rust's formulas, operation by operation (docs/RULES.md, "Quads and cubics"). Definitions only.
use Rattle.std.specs.Prelude.{ℕ, ◌<◌, cond, ◌&&◌, ◌||◌, List, [], ◌∷◌, Float, Result, Ok, Err}
use Rattle.std.proofs.Common.{lit<}
use Rattle.std.specs.Float.Ieee.{eq}
use Rattle.answers.specs.Answers.{number_of}
use Rattle.float_laws.specs.Formula.{◌⊕◌, ◌⊖◌, ◌⊗◌, zero32, one32, two32, three32}
use Rattle.point.specs.declared.Point.{Point}
use Rattle.point.specs.Numbers.{flat, point_at}
use Rattle.point.specs.Point.{point_from}
use Rattle.quad_roots.specs.declared.Roots.{Roots}
use Rattle.quad_roots.specs.Roots.{roots_of, values_of_roots}
use Rattle.quads.specs.Answers.{short_pick}
use Rattle.quads.specs.Steps.{times2, square_at, same, minus, interp}
use Rattle.cubics.specs.declared.Cubic.{Cubic}
use Rattle.cubics.specs.declared.Refusal.{Refusal}
use Rattle.cubics.specs.declared.Refusal.TheVariants.{BufferTooShort}

abbrev pub cubic_of : List Float → Cubic
cubic_of l = record { p0 = point_at l 0; p1 = point_at l 2; p2 = point_at l 4; p3 = point_at l 6 }

-- a formula along both axes
abbrev pub axes : (Float → Float → Float → Float → Float) → Cubic → Point
axes f q = point_from (f q.p0.x q.p1.x q.p2.x q.p3.x) (f q.p0.y q.p1.y q.p2.y q.p3.y)

-- the coefficient of t³
abbrev pub leading : Float → Float → Float → Float → Float
leading p0 p1 p2 p3 = p3 ⊕ three32 ⊗ (p1 ⊖ p2) ⊖ p0

abbrev pub eval_axis : Float → Float → Float → Float → Float → Float
eval_axis t p0 p1 p2 p3 =
    square_at (leading p0 p1 p2 p3) (three32 ⊗ (p2 ⊖ times2 p1 ⊕ p0)) (three32 ⊗ (p1 ⊖ p0)) t ⊗ t ⊕ p0

unfoldable pub cubic_at : Cubic → Float → Point
cubic_at q t = axes (eval_axis t) q

-- a third of the derivative
abbrev pub slope_axis : Float → Float → Float → Float → Float → Float
slope_axis t p0 p1 p2 p3 = square_at (leading p0 p1 p2 p3) (times2 (p2 ⊖ times2 p1 ⊕ p0)) (p1 ⊖ p0) t

-- at an end whose control point coincides with it: towards the next control point, or where that is zero the chord
unfoldable pub next_control : Cubic → Float → Point
next_control q t = cond (eq t zero32) (minus q.p2 q.p0) (minus q.p3 q.p1)

unfoldable pub end_tangent : Cubic → Float → Point
end_tangent q t =
    let next = next_control q t in
    cond (eq next.x zero32 && eq next.y zero32) (minus q.p3 q.p0) next

unfoldable pub cubic_tangent : Cubic → Float → Point
cubic_tangent q t =
    cond ((eq t zero32 && same q.p0 q.p1) || (eq t one32 && same q.p2 q.p3)) (end_tangent q t) (axes (slope_axis t) q)

-- the seven points of the two cubics that meet at t
unfoldable pub cubic_chop : Cubic → Float → List Float
cubic_chop q t =
    let ab = interp q.p0 q.p1 t in
    let bc = interp q.p1 q.p2 t in
    let cd = interp q.p2 q.p3 t in
    let abc = interp ab bc t in
    let bcd = interp bc cd t in
    flat (q.p0 ∷ ab ∷ abc ∷ interp abc bcd t ∷ bcd ∷ cd ∷ q.p3 ∷ [])

-- ---- extrema and inflections: the roots of a quadratic, if there are any
abbrev pub cubic_extrema : Float → Float → Float → Float → Roots
cubic_extrema a b c d = roots_of (d ⊖ a ⊕ three32 ⊗ (b ⊖ c)) (two32 ⊗ (a ⊖ b ⊖ b ⊕ c)) (b ⊖ a)

abbrev pub cross : Point → Point → Float
cross p q = p.x ⊗ q.y ⊖ p.y ⊗ q.x

unfoldable pub cubic_inflections : Cubic → Roots
cubic_inflections q =
    let a = minus q.p1 q.p0 in
    let b = axes (λ p0 p1 p2 p3. p2 ⊖ two32 ⊗ p1 ⊕ p0) q in
    let c = axes leading q in
    roots_of (cross b c) (cross a c) (cross a b)

-- the answer's number and values (docs/RULES.md, "Answer numbers" and "Roots"): no root is an answer, not a refusal
abbrev pub number_of_refusal : Refusal → ℕ
number_of_refusal BufferTooShort = 2

pub refusal_numbers : (why : Refusal) → 0 < number_of_refusal why
refusal_numbers BufferTooShort = lit< tt

abbrev pub number_of_inflections : Result Roots Refusal → ℕ
number_of_inflections = number_of number_of_refusal

abbrev pub values_of_inflections : Result Roots Refusal → List Float
values_of_inflections (Ok roots) = values_of_roots roots
values_of_inflections (Err why) = []

abbrev pub inflections_answer : List Float → Result Roots Refusal
inflections_answer l = short_pick 8 l (Err BufferTooShort) (Ok (cubic_inflections (cubic_of l)))

abbrev pub inflections_number : List Float → ℕ
inflections_number l = short_pick 8 l (number_of_refusal BufferTooShort) 0
