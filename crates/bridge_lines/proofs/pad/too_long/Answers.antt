-- `pad::too_long` meets its contract: the first word decides. Assumes nothing.
use Rattle.std.proofs.Common.{true, false}
use Rattle.bridge_lines.specs.Pad.{stroke_word, too_long_of}
use Rattle.bridge_lines.specs.Words.{words_of}
use Rattle.bridge_lines.proofs.Pads.{named}
use Rattle.bridge_lines.proofs.pad.too_long.Goals as goal

pub returns-then-eq : goal.returns-then-eq
unfolding too_long_of
returns-then-eq c = rw (named (words_of c.args.text.now) 0 stroke_word true c.word.ensures c.as_slice.ensures c.eq.ensures c.if-eq.true)

pub returns : goal.returns
unfolding too_long_of
returns c = rw (named (words_of c.args.text.now) 0 stroke_word false c.word.ensures c.as_slice.ensures c.eq.ensures c.if-eq.false)
