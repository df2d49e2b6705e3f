-- What the contracts of the quad's calls cite: the Rust's formulas, operation by operation (docs/RULES.md, "Quads and cubics"). Definitions only.
use Rattle.std.specs.Prelude.{ℕ, cond, ◌&&◌, ◌||◌, List, [], ◌∷◌, Float, Option, Result, Ok, Err}
use Rattle.std.specs.Float.Ieee.{neg, lt, le, eq, is_nan}
use Rattle.float_laws.specs.Formula.{◌⊕◌, ◌⊖◌, ◌⊗◌, ◌⊘◌, zero32, one32}
use Rattle.point.specs.declared.Point.{Point}
use Rattle.point.specs.Numbers.{flat, point_at}
use Rattle.point.specs.Point.{point_from}
use Rattle.quad_roots.specs.Roots.{divided_of}
use Rattle.quads.specs.declared.Quad.{Quad}
use Rattle.quads.specs.declared.NoCurvature.{NoCurvature}
use Rattle.quads.specs.declared.NoCurvature.TheVariants.{Undefined, BufferTooShort}
use Rattle.quads.specs.Answers.{number_of_no_curvature, short_pick}
use Rattle.quads.specs.Steps.{times2, square_at, same, minus, interp}

abbrev pub quad_of : List Float → Quad
quad_of l = record { p0 = point_at l 0; p1 = point_at l 2; p2 = point_at l 4 }

-- a formula along both axes
abbrev pub axes : (Float → Float → Float → Float) → Quad → Point
axes f q = point_from (f q.p0.x q.p1.x q.p2.x) (f q.p0.y q.p1.y q.p2.y)

abbrev pub eval_axis : Float → Float → Float → Float → Float
eval_axis t p0 p1 p2 = square_at (p2 ⊖ times2 p1 ⊕ p0) (times2 (p1 ⊖ p0)) p0 t

unfoldable pub quad_at : Quad → Float → Point
quad_at q t = axes (eval_axis t) q

abbrev pub slope_axis : Float → Float → Float → Float → Float
slope_axis t p0 p1 p2 = times2 ((p2 ⊖ p1 ⊖ (p1 ⊖ p0)) ⊗ t ⊕ (p1 ⊖ p0))

-- the chord at an end whose control point coincides with it, else the derivative
unfoldable pub quad_tangent : Quad → Float → Point
quad_tangent q t =
    cond ((eq t zero32 && same q.p0 q.p1) || (eq t one32 && same q.p1 q.p2)) (minus q.p2 q.p0) (axes (slope_axis t) q)

-- the five points of the two quads that meet at t
unfoldable pub quad_chop : Quad → Float → List Float
quad_chop q t =
    let p01 = interp q.p0 q.p1 t in
    let p12 = interp q.p1 q.p2 t in
    flat (q.p0 ∷ p01 ∷ interp p01 p12 t ∷ p12 ∷ q.p2 ∷ [])

abbrev pub quad_extrema : Float → Float → Float → Option Float
quad_extrema a b c = divided_of (a ⊖ b) (a ⊖ b ⊖ b ⊕ c)

-- ---- maximum curvature
-- n / d, or 0 or 1 where it lies at or past that end: what goes with such a value, and what with 5, where neither end
-- applies and the quotient is NaN
abbrev pub clamped : {A : Type 0} → (Float → A) → A → Float → Float → A
clamped at five n d =
    cond (le n zero32)
    (at zero32)
    (cond (le d n) (at one32) (cond (is_nan (n ⊘ d)) five (at (n ⊘ d))))

-- -(a·b) / (b·b), both signs flipped where the denominator is below 0
unfoldable pub quad_curvature : {A : Type 0} → (Float → A) → A → Quad → A
quad_curvature at five q =
    let a = minus q.p1 q.p0 in
    let b = axes (λ p0 p1 p2. p0 ⊖ p1 ⊖ p1 ⊕ p2) q in
    let n = neg (a.x ⊗ b.x ⊕ a.y ⊗ b.y) in
    let d = b.x ⊗ b.x ⊕ b.y ⊗ b.y in
    cond (lt d zero32) (clamped at five (neg n) (neg d)) (clamped at five n d)

-- 2 comes before 5
abbrev pub curvature_answer : List Float → Result Float NoCurvature
curvature_answer l = short_pick 6 l (Err BufferTooShort) (quad_curvature Ok (Err Undefined) (quad_of l))

abbrev pub curvature_number : List Float → ℕ
curvature_number l =
    short_pick 6 l (number_of_no_curvature BufferTooShort) (quad_curvature (λ t. 0) (number_of_no_curvature Undefined) (quad_of l))

abbrev pub curvature_values : List Float → List Float
curvature_values l = short_pick 6 l [] (quad_curvature (λ t. t ∷ []) [] (quad_of l))
