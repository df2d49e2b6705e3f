-- The size of a float in thousandths (docs/RULES.md, "Bridges as text"). Definitions only.
use Rattle.std.specs.Prelude.{ℕ, ◌+◌, ◌*◌, ◌/◌, min, Float}
use Rattle.std.specs.Float.{nan, inf, fin}
use Rattle.std.specs.Float.Ieee.{up, down}

-- the whole number nearest to a / c, and the larger where two are as near
abbrev pub nearest_up : ℕ → ℕ → ℕ
nearest_up a c = (2 * a + c) / (2 * c)

-- a / c in thousandths, held at 10 ^ 12
abbrev pub held_of : ℕ → ℕ → ℕ
held_of a c = min (nearest_up (1000 * a) c) 1000000000000

-- that of a float's size, and 10 ^ 12 where it has none; `fin s m e` is m * up e / down e in size
unfoldable pub thousandths_of : Float → ℕ
thousandths_of nan = 1000000000000
thousandths_of (inf s) = 1000000000000
thousandths_of (fin s m e) = held_of (m * up e) (down e)
