-- The invariant of the loop of `pin`: what is left to store makes the whole store. Assumes nothing.
use mathlib.Core.Path.{◌≡◌}
use Prim.Native.Nat.{◌+◌, ◌-◌, ◌*◌}
use lib.Seq.{sets}
use lib.ListN.{replicate}
use Rattle.point.specs.Numbers.{flat}
use Rattle.conic_cut.proofs.storing.pin.Given as goal

abbrev pub invariant-loop : goal.invariant-loop
invariant-loop l =
    (l.next ≡ l.at + 2 * l.counter)
    × (sets l.out l.next (flat (replicate (l.n - l.counter) l.p)) ≡ sets l.initial.out l.at (flat (replicate l.n l.p)))
