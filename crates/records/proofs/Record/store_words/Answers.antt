-- `records::Record::store_words` meets its contract: the words that are stored at once are one store of their list. Assumes nothing.
use mir.Syntax.{w32}
use mir.Val.{SFits}
use mir.ValLaws.{to_z-of_z}
use borrow.Author.Rules.{rules}
use native.Mathlib.Omega.{arith}
use Rattle.records.specs.Numbers.{AllBelow}
use Rattle.records.specs.Record.{words_of, words_over, Fits}
use Rattle.records.proofs.Signed.{pattern_is}
use Rattle.records.proofs.Stores.{stored_first, stored_all_seven}
use Rattle.records.proofs.Record.store_words.Goals as goal

pub returns-in-Conic-clause-words_after : goal.returns-in-Conic-clause-words_after
unfolding words_over words_of
returns-in-Conic-clause-words_after c = rw c.in-Conic.is (stored_all_seven c.args.words.now _ (omega arith))

pub returns-in-Conic-clause-fits : goal.returns-in-Conic-clause-fits
unfolding Fits words_of AllBelow
returns-in-Conic-clause-fits c =
    rw c.in-Conic.is (omega arith, (omega arith, (omega arith, (omega arith, (omega arith, (omega arith, (omega arith, tt)))))))

pub returns-in-Transform-clause-words_after : goal.returns-in-Transform-clause-words_after
unfolding words_over words_of
returns-in-Transform-clause-words_after c = rw c.in-Transform.is (stored_first c.args.words.now c.copy_from_slice.new.self _ 6 c.copy_from_slice.ensures.after (omega arith) (omega arith))

pub returns-in-Transform-clause-fits : goal.returns-in-Transform-clause-fits
unfolding Fits words_of AllBelow
returns-in-Transform-clause-fits c =
    rw c.in-Transform.is (omega arith, (omega arith, (omega arith, (omega arith, (omega arith, (omega arith, tt))))))

pub returns-in-Correction-clause-words_after : goal.returns-in-Correction-clause-words_after
unfolding words_over words_of
returns-in-Correction-clause-words_after c =
    let fit : SFits w32 c.in-Correction.z = search rules in
    rw (c.cast_unsigned.ensures, c.in-Correction.is, to_z-of_z w32 c.in-Correction.z fit, pattern_is)

pub returns-in-Correction-clause-fits : goal.returns-in-Correction-clause-fits
unfolding Fits
returns-in-Correction-clause-fits c =
    let fit : SFits w32 c.in-Correction.z = search rules in
    rw c.in-Correction.is fit
