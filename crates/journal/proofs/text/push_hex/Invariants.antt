-- `text::push_hex` meets its contract. The invariant: the digits so far, and those of the bytes that are left, are all. Assumes
-- nothing.
use Rattle.std.proofs.Common.{◌≡◌, ◌+◌, ◌*◌, ◌++◌, drop}
use Rattle.arrayvec.specs.ArrayVec.{array_vec_len}
use Rattle.journal.specs.Text.{hex_of}
use Rattle.journal.proofs.text.push_hex.Given as goal

abbrev pub invariant-loop-b : goal.invariant-loop-b
invariant-loop-b l = record {
  long : array_vec_len l.line ≡ array_vec_len l.initial.line + 2 * l.b-index;
  left : l.line.items ++ hex_of (drop l.b-index l.bytes) ≡ l.initial.line.items ++ hex_of l.bytes;
}
