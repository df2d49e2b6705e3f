-- `Conic::compute_quad_pow2_from` meets its contract: the level of the conic that was read, within the limits. Assumes nothing.
use mathlib.Core.Path.{sym}
use Rattle.conic.specs.declared.Rule.TheVariants.{Product}
use Rattle.conic.proofs.Levels.{by_level}
use Rattle.conic.proofs.Sources.{was_made}
use Rattle.conic.proofs.Conic.compute_quad_pow2_from.Goals as goal

pub returns : goal.returns
returns c =
    let a = c.args in
    let read = was_made a.src.now a.weight Product _ (sym c.in_ok-c.ensures.answer) in
    rw (← read.1) (by_level a.ceiling _ _ a.tolerance _ _ read.0 (sym c.in_ok-limits.ensures) c.level.ensures)
