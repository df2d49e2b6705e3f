-- `reading::line` meets its contract: the words so far are right, and those that are left decide. Assumes nothing.
use Rattle.std.proofs.Common.{◌≡◌, ℕ, ◌+◌, ◌<◌, true, [], get_or, drop}
use Rattle.bridge_lines.specs.Reading.{in_range, judged, bridge_of, line_of}
use Rattle.bridge_lines.specs.Words.{words_of}
use Rattle.bridge_lines.proofs.reading.line.Given as goal

abbrev pub invariant-loop-k : goal.invariant-loop-k
invariant-loop-k l = record {
  right : (j : ℕ) → j < l.k → in_range (j + 1) (get_or (words_of l.text) j []) ≡ true;
  left : judged (l.k + 1) (drop l.k (words_of l.text)) (bridge_of (words_of l.text)) ≡ line_of (words_of l.text);
}
