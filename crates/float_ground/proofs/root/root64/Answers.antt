-- `float_ground::root::root64` meets its contract, by the law of `Rooting`. Assumes nothing.
use native.Mathlib.Omega.{arith}
use lib.Ieee.{binary64}
use Rattle.float_ground.proofs.Rooting.{Rooted, root_by}
use Rattle.float_ground.proofs.root.root64.Goals as goal
use Rattle.float_ground.proofs.root.root64.Goals.{After-root53}

by : (c : After-root53) → Rooted binary64 c.args.g c.args.t c.root53.result
by c = root_by binary64 c.args.g c.args.t c.root53.result c.root53.ensures c.requires.even (omega (arith, c.requires.exponent))

pub overflow_add-result : goal.overflow_add-result
overflow_add-result c = record { fits = omega (arith, (by c).room) }

pub float_from_bits-result : goal.float_from_bits-result
float_from_bits-result c = (by c).no_nan

pub returns : goal.returns
returns c = (by c).is
