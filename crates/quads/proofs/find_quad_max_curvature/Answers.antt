-- `quads::find_quad_max_curvature` meets its contract: number and values follow from the answer. Assumes nothing.
use Rattle.std.proofs.Common.{rules}
use Rattle.quads.proofs.Curved.{curvature_numbered, curvature_valued}
use Rattle.quads.proofs.find_quad_max_curvature.Goals as goal

pub returns-clause-number : goal.returns-clause-number
returns-clause-number c = curvature_numbered c.args.src.now (search rules)

pub returns-clause-values : goal.returns-clause-values
returns-clause-values c = curvature_valued c.args.src.now (search rules)
