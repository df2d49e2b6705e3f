-- Conics and matrices as lent numbers (docs/RULES.md, "The C face"). Definitions only.
use Rattle.std.specs.Prelude.{List, [], ◌∷◌, ◌++◌, get_or, Float}
use Rattle.std.specs.Float.{nan}
use Rattle.point.specs.Numbers.{flat}
use Rattle.conic.specs.declared.Conic.{Conic}
use Rattle.conic.specs.declared.Halves.{Halves}
use Rattle.transform.specs.declared.Transform.{Transform}
use Rattle.transform.specs.declared.kinds.Scale.{Scale}
use Rattle.transform.specs.Row.{row_of}

-- six numbers in the order of `from_row`
abbrev pub matrix_of : List Float → Transform
matrix_of m = row_of (get_or m 0 nan) (get_or m 1 nan) (get_or m 2 nan) (get_or m 3 nan) (get_or m 4 nan) (get_or m 5 nan)

-- a conic's points and its weight, seven numbers; and both halves of one
abbrev pub conic_numbers : Conic → List Float
conic_numbers c = flat (c.p0 ∷ c.p1 ∷ c.p2 ∷ []) ++ (c.weight ∷ [])

abbrev pub half_numbers : Halves → List Float
half_numbers h = conic_numbers h.first ++ conic_numbers h.second

abbrev pub scale_numbers : Scale → List Float
scale_numbers s = s.x ∷ s.y ∷ []
