-- The level falls at each call of itself.
use Rattle.conic_cut.proofs.subdividing.+subdivide_in_full.Given as goal

abbrev pub decreases-subdivide_in_full : goal.decreases-subdivide_in_full
decreases-subdivide_in_full l = l.level
