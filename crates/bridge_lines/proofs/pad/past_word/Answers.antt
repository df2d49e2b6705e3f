-- `pad::past_word` meets its contract: behind the first word stand the others. Assumes nothing.
use Rattle.std.proofs.Common.{ℕ, List}
use Rattle.bridge_lines.proofs.Bytes.{tail}
use Rattle.bridge_lines.proofs.Pads.{behind}
use Rattle.bridge_lines.proofs.pad.past_word.Goals as goal

pub returns : goal.returns
returns c =
    let text : List ℕ = c.args.text.now in
    let e : ℕ = c.first-end.result in
    rw (tail text e) (behind text c.first-at.result e c.first-at.ensures.1 c.first-end.ensures.1)
