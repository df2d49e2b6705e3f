-- The invariant of the loop of `ladder`: the rungs that are left to store make the whole ladder. Assumes nothing.
use mathlib.Core.Path.{◌≡◌}
use Prim.Native.Nat.{◌≤◌}
use Rattle.conic_cut.specs.Ladder.{rungs_of}
use Rattle.conic_cut.proofs.subdividing.ladder.Given as goal

abbrev pub invariant-loop-n : goal.invariant-loop-n
invariant-loop-n l = (1 ≤ l.n) × (rungs_of l.rungs l.n l.w ≡ rungs_of l.initial.rungs l.level l.weight)
