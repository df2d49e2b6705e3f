-- `records::write` meets its contract: its words, written by its kind, are its bytes. Assumes nothing.
use mathlib.Core.Path.{refl, ap, ◌∙◌}
use mathlib.Core.List.{[], ◌∷◌}
use Rattle.records.specs.Kinds.{number_of_kind}
use Rattle.records.specs.Writing.{stored_answer, stored_over}
use Rattle.records.proofs.First.{bytes_by_words}
use Rattle.records.proofs.write.Goals as goal

pub returns : goal.returns
returns c =
    let a = c.args in
    let stored = c.store_words in
    let same = bytes_by_words (0 ∷ 0 ∷ 0 ∷ 0 ∷ 0 ∷ 0 ∷ 0 ∷ []) a.r stored.ensures.fits (number_of_kind c.kind-kind.result) c.words.result stored.new.words
    c.kind-kind.ensures c.words.ensures.count stored.ensures.words_after refl in
    record {
      value = c.put.ensures.value ∙ ap (stored_answer a.journal.now a.at) same;
      journal = c.put.ensures.stored ∙ ap (stored_over a.journal.now a.at) same;
      fits = stored.ensures.fits;
    }
