-- `AutoConicToQuads::compute` meets its contract, by that of the cut. Assumes nothing.
use Rattle.conic_cut.proofs.Autos.{computed}
use Rattle.conic_cut.proofs.AutoConicToQuads.compute.Goals as goal

pub returns : goal.returns
returns c =
    let cut = c.chop_by_tolerance-answer in
    rw (← c.new-c.ensures) (computed cut.ensures.answer cut.ensures.points)
