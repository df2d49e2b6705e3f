-- Points up to the signs of zeros, which neither `OneWay` nor `Premise` sees (docs/RULES.md, "Sameness"). Definitions only.
use Rattle.std.specs.Prelude.{List, [], ◌∷◌}
use Rattle.float_laws.specs.Zeros.{SameNumber}
use Rattle.point.specs.declared.Point.{Point}
use Rattle.conic.specs.declared.Conic.{Conic}
use Rattle.conic.specs.Chop.{along}
use Rattle.conic.specs.Rule.{Axis}

-- point by point the same along k, but that a zero may have another sign
unfoldable pub SameNumbers : Axis → List Point → List Point → Type 0
SameNumbers k [] [] = Unit {0}
SameNumbers k [] (q ∷ m) = ⊥
SameNumbers k (p ∷ l) [] = ⊥
SameNumbers k (p ∷ l) (q ∷ m) = SameNumber (along k p) (along k q) × SameNumbers k l m

-- the same along both axes; of weight and rule nothing is said
abbrev pub SameCorners : Conic → Conic → Type 0
SameCorners c d = (k : Axis) → SameNumbers k (c.p0 ∷ c.p1 ∷ c.p2 ∷ []) (d.p0 ∷ d.p1 ∷ d.p2 ∷ [])
