-- The invariant of the loop of `quarterings`: the steps done and those left make the whole count. Assumes nothing.
use mathlib.Core.Path.{◌≡◌}
use Prim.Native.Nat.{◌+◌, ◌-◌}
use Rattle.conic.specs.Level.{quarterings_of}
use Rattle.conic.proofs.leveling.quarterings.Given as goal

abbrev pub invariant-loop-pow2 : goal.invariant-loop-pow2
invariant-loop-pow2 l = l.pow2 + quarterings_of (l.ceiling - l.pow2) l.left l.tolerance ≡ quarterings_of l.ceiling l.error l.tolerance
