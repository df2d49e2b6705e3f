-- The level falls at each call of itself.
use Rattle.conic_cut.proofs.subdividing.+subdivide.Given as goal

abbrev pub decreases-subdivide : goal.decreases-subdivide
decreases-subdivide l = l.level
