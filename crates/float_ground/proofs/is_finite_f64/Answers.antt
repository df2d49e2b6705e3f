-- `float_ground::is_finite_f64` meets its contract: a number lies between the infinities. Assumes nothing.
use mathlib.Core.Bool.{true, false}
use lib.Ieee.{binary64}
use Rattle.float_laws.proofs.Sign.{inside, infinite}
use Rattle.float_ground.proofs.is_finite_f64.Goals as goal

pub returns : goal.returns
returns c = rw (infinite binary64 true, infinite binary64 false) (inside c.args.x)
