-- IEEE 754's conversion to a format: the value of the format nearest to x, a tie to the even one, as `round` has it; and whether
-- narrowing keeps a value (docs/RULES.md, "The float ground"). Definitions only.
use Rattle.std.specs.Prelude.{Bool, false, not, ◌||◌, List, [], ◌∷◌, ◌*◌, Float}
use Rattle.std.specs.Float.{nan, inf, fin, Format, binary32}
use Rattle.std.specs.Float.Ieee.{up, down, round, eq, is_nan}

unfoldable pub round_to : Format → Float → Float
unfolding round
round_to f nan = nan
round_to f (inf s) = inf s
round_to f (fin s m e) = round f s (m * up e) (down e)

abbrev pub narrow_of : Float → Float
narrow_of x = round_to binary32 x

-- widening what x is narrowed to gives x back, or both are NaN
unfoldable pub kept : Float → Bool
kept x = is_nan x || eq (narrow_of x) x

-- some narrowing of these numbers is not exact
unfoldable pub some_lost : List Float → Bool
some_lost [] = false
some_lost (x ∷ l) = not (kept x) || some_lost l
