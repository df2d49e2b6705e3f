-- What a rule does along each axis (docs/RULES.md, "Conics"). Definitions only.
use Rattle.conic.specs.declared.Rule.{Rule}
use Rattle.conic.specs.declared.Rule.TheVariants.{Product, Exact, BothAxes}
use Rattle.conic.specs.declared.ruling.Test.{Test}
use Rattle.conic.specs.declared.ruling.Test.TheVariants as By

pub data Axis : Type 0 where
  X Y : Axis

-- which axes a rule puts in order, and by which test
unfoldable pub test_along : Axis → Rule → Test
test_along X Product = By.Never
test_along X Exact = By.Never
test_along X BothAxes = By.Exact
test_along Y Product = By.Product
test_along Y Exact = By.Exact
test_along Y BothAxes = By.Exact
