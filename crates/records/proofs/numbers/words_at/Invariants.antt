-- `records::numbers::words_at` meets its contract. The invariant: the words so far are those that stand there. Assumes nothing.
use Rattle.std.proofs.Common.{◌≡◌, ◌+◌, ◌*◌, length, take}
use Rattle.records.specs.Numbers.{words_at}
use Rattle.records.proofs.numbers.words_at.Given as goal

abbrev pub invariant-loop-word : goal.invariant-loop-word
invariant-loop-word g l = record {
  next : l.next ≡ l.at + 4 * l.word-index;
  all : length l.word-items ≡ g.row.N;
  so_far : take l.word-index l.word-items ≡ words_at l.bytes l.at l.word-index;
}
