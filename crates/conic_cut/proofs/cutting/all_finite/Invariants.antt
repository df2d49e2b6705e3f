-- The invariant of the loop of `all_finite`: what was found, and what the rest will be found, make the whole answer. Assumes nothing.
use mathlib.Core.Bool.{◌&&◌}
use mathlib.Core.Path.{◌≡◌}
use Prim.Native.Nat.{◌*◌}
use lib.ListN.{drop}
use Rattle.point.specs.Numbers.{points_of}
use Rattle.conic_cut.specs.Cut.{all_finite}
use Rattle.conic_cut.proofs.cutting.all_finite.Given as goal

abbrev pub invariant-loop-i : goal.invariant-loop-i
invariant-loop-i l = (l.ok && all_finite (points_of (drop (2 * l.i) l.s))) ≡ all_finite (points_of l.s)
