-- `nyerdzumak::conics::nz_cut_in_order` keeps its order: that of the cut along y, which the exact rule asks for. Assumes nothing.
use mathlib.Core.Path.{refl}
use Rattle.conic.specs.Rule.{Y, test_along}
use Rattle.conic.specs.Source.{conic_of}
use Rattle.nyerdzumak.proofs.conics.nz_cut_in_order.Goals as goal

pub returns-clause-order : goal.returns-clause-order
unfolding test_along conic_of
returns-clause-order c = λ long. c.chop_into_quads_pow2_from-cut.ensures.order long Y refl
