-- `nyerdzumak::conics::nz_cut_in_order_both` keeps its order: that of the cut along each axis. Assumes nothing.
use mathlib.Core.Path.{refl}
use Rattle.conic.specs.Rule.{X, Y, test_along}
use Rattle.conic.specs.Source.{conic_of}
use Rattle.nyerdzumak.proofs.conics.nz_cut_in_order_both.Goals as goal

pub returns-clause-order_x : goal.returns-clause-order_x
unfolding test_along conic_of
returns-clause-order_x c = λ long. c.chop_into_quads_pow2_from-cut.ensures.order long X refl

pub returns-clause-order_y : goal.returns-clause-order_y
unfolding test_along conic_of
returns-clause-order_y c = λ long. c.chop_into_quads_pow2_from-cut.ensures.order long Y refl
