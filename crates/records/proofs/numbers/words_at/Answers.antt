-- `records::numbers::words_at` meets its contract: each turn puts one word more. Assumes nothing.
use native.Mathlib.Omega.{arith}
use lib.ListN.{length-set, length-replicate}
use mathlib.Core.Path.{refl, ◌∙◌}
use Rattle.records.specs.Numbers.{words_at}
use Rattle.records.proofs.Patterns.{put_next, put_all}
use Rattle.records.proofs.numbers.words_at.Goals as goal

pub loop-word-init : goal.loop-word-init
unfolding words_at
loop-word-init g c = record { next = omega arith; all = length-replicate g.row.N 0; so_far = refl }

pub loop-word-preserved : goal.loop-word-preserved
loop-word-preserved g c = record {
  next = omega arith;
  all = length-set c.loop-word.word-items c.loop-word.word-index c.word_at.result ∙ c.loop-word.invariant.all;
  so_far =
      put_next c.args.bytes.now c.args.at c.loop-word.word-index c.loop-word.next c.loop-word.word-items _
      (omega arith) c.loop-word.invariant.next c.word_at.ensures c.loop-word.invariant.so_far;
}

pub returns : goal.returns
returns g c = put_all c.args.bytes.now c.args.at c.loop-word.word-index g.row.N c.loop-word.word-items (omega arith) c.loop-word.invariant.all c.loop-word.invariant.so_far
