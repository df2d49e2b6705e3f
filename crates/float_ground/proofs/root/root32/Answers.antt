-- `float_ground::root::root32` meets its contract, by the law of `Rooting`. Assumes nothing.
use native.Mathlib.Omega.{arith}
use lib.Ieee.{binary32}
use Rattle.float_ground.proofs.Rooting.{Rooted, root_by}
use Rattle.float_ground.proofs.root.root32.Goals as goal
use Rattle.float_ground.proofs.root.root32.Goals.{After-root24}

by : (c : After-root24) → Rooted binary32 c.args.g c.args.t c.root24.result
by c = root_by binary32 c.args.g c.args.t c.root24.result c.root24.ensures c.requires.even (omega (arith, c.requires.exponent))

pub overflow_add-result : goal.overflow_add-result
overflow_add-result c = record { fits = omega (arith, (by c).room) }

pub float_from_bits-result : goal.float_from_bits-result
float_from_bits-result c = (by c).no_nan

pub returns : goal.returns
returns c = (by c).is
