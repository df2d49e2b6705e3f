-- `chop_into_quads_pow2` meets its contract: what the store leaves is in order. Assumes nothing.
use native.Mathlib.Omega.{arith}
use Rattle.conic_cut.proofs.Answers.{stored_order}
use Rattle.conic_cut.proofs.chop_into_quads_pow2.Goals as goal

pub returns-clause-order : goal.returns-clause-order
returns-clause-order c =
    let a = c.args in
    stored_order a.level a.c a.out.now _ c.if-level-gt-MAX_CUT_LEVEL.false (omega (arith, c.quads-quads.ensures, c.if-out-quads.false)) c.store.ensures
