-- `scan::word` meets its contract: at each turn the words from the index on are those after the words that were passed. Assumes nothing.
use Rattle.std.proofs.Common.{◌≤◌, length}
use Rattle.bridge_lines.proofs.Split.{Stands}
use Rattle.bridge_lines.proofs.scan.word.Given as goal

abbrev pub invariant-loop-passed : goal.invariant-loop-passed
invariant-loop-passed l = record { inside : l.at ≤ length l.text; stands : Stands l.text l.at l.passed }
