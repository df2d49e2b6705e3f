-- What the contracts of `Point` cite (docs/RULES.md, "Conics"). Definitions only.
use Rattle.std.specs.Prelude.{Bool, Float}
use Rattle.std.specs.Float.Ieee.Scale.{finite}
use Rattle.float_laws.specs.Formula.{◌⊗◌}
use Rattle.point.specs.declared.Point.{Point}

abbrev pub point_from : Float → Float → Point
point_from x y = record { x = x; y = y }

-- the product of the coordinates is a number
abbrev pub point_finite : Point → Bool
point_finite p = finite (p.x ⊗ p.y)
