-- `records::store::put_words` meets its contract. The invariant is what is left to do: storing the words that are left at `next`
-- gives what storing all of them at `at` gave. Assumes nothing.
use Rattle.std.proofs.Common.{◌≡◌, ◌+◌, ◌*◌, length, drop}
use lib.Seq.{sets}
use Rattle.records.specs.Numbers.{fours}
use Rattle.records.proofs.store.put_words.Given as goal

abbrev pub invariant-loop-word : goal.invariant-loop-word
invariant-loop-word l = record {
  next : l.next ≡ l.at + 4 * l.word-index;
  room : length l.out ≡ length l.initial.out;
  left : sets l.out l.next (fours (drop l.word-index l.words)) ≡ sets l.initial.out l.at (fours l.words);
}
