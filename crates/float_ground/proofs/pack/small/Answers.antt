-- `float_ground::pack::small` meets its contract: each way is a law of `Narrower`. Assumes nothing.
use native.Mathlib.Omega.{arith}
use Rattle.float_ground.proofs.Narrower.{small, tiny, none}
use Rattle.float_ground.proofs.pack.small.Goals as goal

pub returns-then-field-gt0 : goal.returns-then-field-gt0
returns-then-field-gt0 c = small _ _ _ (omega arith) (omega arith) c.normal.ensures c.pack.ensures

pub returns-then-t-gt0 : goal.returns-then-t-gt0
returns-then-t-gt0 c = tiny _ _ _ (omega arith) c.normal-then-t-gt0.ensures c.pack-then-t-gt0.ensures

pub returns : goal.returns
returns c = none _ (omega arith)
