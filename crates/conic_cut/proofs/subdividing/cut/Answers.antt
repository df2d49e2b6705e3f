-- `cut` meets its contract: at level 0 a store. Assumes nothing.
use Rattle.conic_cut.proofs.Stores.{stored_zero}
use Rattle.conic_cut.proofs.subdividing.cut.Goals as goal

pub returns-then-level-eq0 : goal.returns-then-level-eq0
returns-then-level-eq0 c = stored_zero _ _ _ _ _ _ _ c.if-level-eq0.true c.put_quad.ensures
