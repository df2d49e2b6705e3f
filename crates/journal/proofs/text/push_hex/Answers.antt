-- `text::push_hex` meets its contract: each turn puts the digits of one byte. Assumes nothing.
use Rattle.std.proofs.Common.{◌∙◌, arith}
use Rattle.journal.proofs.Hex.{more_bytes, all_bytes}
use Rattle.journal.proofs.text.push_hex.Goals as goal

pub loop-b-preserved : goal.loop-b-preserved
loop-b-preserved c =
    let i = c.loop-b.b-index in
    let bs = c.args.bytes.now in
    record {
      long = omega arith;
      left =
          more_bytes bs c.loop-b.line.items c.push.new.self.items c.push-in-loop-b.new.self.items i c.digit.result c.digit-in-loop-b.result
          (omega arith) c.digit.ensures c.digit-in-loop-b.ensures c.push.ensures.items c.push-in-loop-b.ensures.items
          ∙ c.loop-b.invariant.left;
    }

pub returns-clause-items : goal.returns-clause-items
returns-clause-items c = all_bytes c.args.bytes.now c.loop-b.line.items c.loop-b.b-index (omega arith) ∙ c.loop-b.invariant.left
