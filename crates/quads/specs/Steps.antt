-- The steps that the formulas share, in binary32: each operation rounds once, in the order that the Rust writes it (docs/RULES.md, "Quads
-- and cubics"). Definitions only.
use Rattle.std.specs.Prelude.{Bool, cond, not, ◌&&◌, Float, Result, Ok, Err}
use Rattle.std.specs.Float.Ieee.{le, eq}
use Rattle.float_laws.specs.Formula.{◌⊕◌, ◌⊖◌, ◌⊗◌, zero32, one32}
use Rattle.point.specs.declared.Point.{Point}
use Rattle.point.specs.Point.{point_from}
use Rattle.quad_roots.specs.Roots.{inside}
use Rattle.quads.specs.declared.Refusal.{Refusal}
use Rattle.quads.specs.declared.Refusal.TheVariants.{OutOfRange}

abbrev pub times2 : Float → Float
times2 v = v ⊕ v

-- (a·t + b)·t + c
abbrev pub square_at : Float → Float → Float → Float → Float
square_at a b c t = (a ⊗ t ⊕ b) ⊗ t ⊕ c

-- outside 0 ≤ t ≤ 1, and outside 0 < t < 1, where NaN always is
abbrev pub outside_unit : Float → Bool
outside_unit t = not (le zero32 t && le t one32)

abbrev pub outside_open_unit : Float → Bool
outside_open_unit t = not (inside t)

-- refused there
abbrev pub in_unit : Float → Result (Unit {0}) Refusal
in_unit t = cond (outside_unit t) (Err OutOfRange) (Ok tt)

abbrev pub in_open_unit : Float → Result (Unit {0}) Refusal
in_open_unit t = cond (outside_open_unit t) (Err OutOfRange) (Ok tt)

abbrev pub same : Point → Point → Bool
same p q = eq p.x q.x && eq p.y q.y

abbrev pub minus : Point → Point → Point
minus p q = point_from (p.x ⊖ q.x) (p.y ⊖ q.y)

abbrev pub interp : Point → Point → Float → Point
interp p q t = point_from (p.x ⊕ (q.x ⊖ p.x) ⊗ t) (p.y ⊕ (q.y ⊖ p.y) ⊗ t)
