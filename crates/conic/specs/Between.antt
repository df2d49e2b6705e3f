-- The between tests of b against a and c (docs/RULES.md, "Conics"). Definitions only.
use Rattle.std.specs.Prelude.{Bool, false, ◌&&◌, ◌||◌, Float}
use Rattle.std.specs.Float.Ieee.{le}
use Rattle.float_laws.specs.Formula.{◌⊖◌, ◌⊗◌, zero32}
use Rattle.conic.specs.declared.ruling.Test.{Test}
use Rattle.conic.specs.declared.ruling.Test.TheVariants.{Never, Product, Exact}

-- the crate's: (a − b)(c − b) ≤ 0
abbrev pub product_test : Float → Float → Float → Bool
product_test a b c = le ((a ⊖ b) ⊗ (c ⊖ b)) zero32

-- ours: a ≤ b ≤ c or a ≥ b ≥ c
abbrev pub exact_test : Float → Float → Float → Bool
exact_test a b c = (le a b && le b c) || (le b a && le c b)

-- nothing passes the first, so that an axis that goes by it is left as it is
unfoldable pub passes : Test → Float → Float → Float → Bool
passes Never a b c = false
passes Product a b c = product_test a b c
passes Exact a b c = exact_test a b c
