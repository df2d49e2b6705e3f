-- Floats up to the sign of a zero, which no comparison sees (docs/RULES.md, "Sameness"). Definitions only.
use Rattle.std.specs.Prelude.{◌≡◌, false, zero, suc, Float}
use Rattle.std.specs.Float.{nan, inf, fin}

-- plus zero for either zero, and every other float as it is
unfoldable pub unsigned_zero : Float → Float
unsigned_zero nan = nan
unsigned_zero (inf s) = inf s
unsigned_zero (fin s zero e) = fin false zero e
unsigned_zero (fin s (suc m) e) = fin s (suc m) e

-- x and y are the same, but that a zero may have another sign
abbrev pub SameNumber : Float → Float → Type 0
SameNumber x y = unsigned_zero x ≡ unsigned_zero y
