-- The invariant of the loop of `round_into`: what is left to store makes the whole store, and there is room for it. Assumes nothing.
use Rattle.std.proofs.Common.{◌≡◌, ◌+◌, ◌*◌, ◌≤◌, length}
use lib.Seq.{sets}
use Rattle.date_table.proofs.Taken.{left}
use Rattle.date_table.proofs.making.round_into.Given as goal

abbrev pub invariant-loop-i : goal.invariant-loop-i
invariant-loop-i l =
    (2 * l.i + length (left (4 * l.i) l.points) ≤ length l.out)
    × (sets l.out (2 * l.i) (left (4 * l.i) l.points) ≡ sets l.initial.out 0 (left 0 l.points))
