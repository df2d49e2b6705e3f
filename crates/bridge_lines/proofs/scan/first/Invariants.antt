-- The loop of `scan::first`: what is passed and what is still to pass come to the same at each turn. Assumes nothing.
use Rattle.std.proofs.Common.{◌≡◌, ◌+◌, length, drop}
use Rattle.bridge_lines.specs.Words.{before}
use Rattle.bridge_lines.specs.Kinds.{is_of}
use Rattle.bridge_lines.proofs.scan.first.Given as goal

abbrev pub invariant-loop-i : goal.invariant-loop-i
invariant-loop-i l =
    l.i + length (before (is_of l.kind) (drop l.i l.s)) ≡ l.at + length (before (is_of l.kind) (drop l.at l.s))
