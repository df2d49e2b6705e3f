-- Points as lent numbers: x, then y, of each (docs/RULES.md, "Rooms"). Definitions only.
use Rattle.std.specs.Prelude.{ℕ, ◌+◌, List, [], ◌∷◌, get_or, Float}
use Rattle.std.specs.Float.{nan}
use Rattle.point.specs.declared.Point.{Point}
use Rattle.point.specs.Point.{point_from}

-- the numbers of points
unfoldable pub flat : List Point → List Float
flat [] = []
flat (p ∷ ps) = p.x ∷ p.y ∷ flat ps

-- the points that numbers make; an odd one at the end makes none
unfoldable pub points_of : List Float → List Point
points_of [] = []
points_of (x ∷ []) = []
points_of (x ∷ y ∷ l) = point_from x y ∷ points_of l

-- the point that begins at the number i
abbrev pub point_at : List Float → ℕ → Point
point_at l i = point_from (get_or l i nan) (get_or l (i + 1) nan)
