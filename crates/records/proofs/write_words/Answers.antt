-- `records::write_words` meets its contract: what `put` ensures at the kind and as many words as it has. Assumes nothing.
use Rattle.std.proofs.lemmas.Result.{err_from_is_err_and}
use Rattle.records.specs.Kinds.{number_of_kind}
use Rattle.records.proofs.Stores.{no_kind, some_kind}
use Rattle.records.proofs.write_words.Goals as goal

pub returns-in_err-kind : goal.returns-in_err-kind
returns-in_err-kind c =
    let a = c.args in
    let whole = no_kind a.journal.now a.words.now a.at a.kind c.in_err-kind.ensures.1 in
    let p = err_from_is_err_and c.from_residual.result c.from_residual.ensures.1 in
    record { value = rw (p.1, p.2, c.in_err-kind.ensures.0) whole.0; journal = whole.1.0; words = whole.1.1 }

pub returns : goal.returns
returns c =
    let a = c.args in
    let put = c.put in
    let whole = some_kind a.journal.now a.words.now a.at a.kind
    (number_of_kind c.in_ok-kind.kind) c.words.result c.in_ok-kind.ensures c.words.ensures.count c.words.ensures.few.0 c.told-words
    put.result put.new.out put.ensures.value put.ensures.stored put.ensures.below in
    record { value = whole.0; journal = whole.1.0; words = whole.1.1 }
