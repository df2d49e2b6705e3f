-- `scan::word` meets its contract: each turn passes one word. Assumes nothing.
use Rattle.std.proofs.Common.{◌≡◌, arith}
use Rattle.bridge_lines.proofs.Split.{start, next, word_at}
use Rattle.bridge_lines.proofs.scan.word.Goals as goal

pub loop-passed-init : goal.loop-passed-init
loop-passed-init c = record { inside = omega arith; stands = start c.args.text.now c.first-at.result c.first-at.ensures.1 }

pub loop-passed-preserved : goal.loop-passed-preserved
loop-passed-preserved c = record {
  inside = omega arith;
  stands =
      next c.args.text.now c.loop-passed.at c.loop-passed.passed c.first-end.result c.first-at-in-loop-passed.result
      c.loop-passed.invariant.stands c.first-end.ensures.1 c.first-at-in-loop-passed.ensures.1;
}

pub returns : goal.returns
returns c =
    let e : c.loop-passed.passed ≡ c.args.k = omega arith in
    rw (← e)
    (word_at c.args.text.now c.loop-passed.at c.loop-passed.passed c.first-end-2.result c.loop-passed.invariant.stands c.first-end-2.ensures.1)
