-- `mapping::map_points` meets its contract. The loop's invariant: the points before the index are mapped, and the others are as they
-- were. Assumes nothing.
use Rattle.std.proofs.Common.{◌≡◌, ◌++◌, map, take, drop}
use Rattle.transform.specs.Mapped.{map_point}
use Rattle.mapping.proofs.map_points.Given as goal

abbrev pub invariant-loop-p : goal.invariant-loop-p
invariant-loop-p l = l.points ≡ map (map_point l.ts) (take l.p-index l.initial.points) ++ drop l.p-index l.initial.points
