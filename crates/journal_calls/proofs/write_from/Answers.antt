-- `journal_calls::write_from` meets its contract: it gives what `write_words` answers. Assumes nothing.
use Rattle.journal_calls.proofs.Back.{given}
use Rattle.journal_calls.proofs.write_from.Goals as goal

pub returns : goal.returns
returns c =
    let a = c.args in
    let w = c.write_words in
    given a.journal.now w.new.journal a.at a.kind a.words.now c.give.result a.next.now c.give.new.out
    w.result w.ensures.value w.ensures.journal w.ensures.words c.give.ensures.value c.give.ensures.out
