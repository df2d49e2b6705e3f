-- `records::find_end` meets its contract: what `read` found says how what is read from `at` on goes on. Assumes nothing.
use Rattle.std.specs.Prelude.{Ok}
use mathlib.Core.Path.{refl, sym, ap, ◌∙◌}
use native.Mathlib.Omega.{arith}
use Rattle.std.proofs.lemmas.Result.{err_from_is_err_and}
use Rattle.records.specs.Reading.{ended_by, read_all, end_of}
use Rattle.records.proofs.Journals.{read_more, refused_end, found_end}
use Rattle.records.proofs.Judged.{forward}
use Rattle.records.proofs.find_end.Goals as goal

pub loop-next-init : goal.loop-next-init
unfolding end_of read_all
loop-next-init c = refl

pub loop-next-smaller : goal.loop-next-smaller
loop-next-smaller c =
    let found = sym c.read.ensures ∙ c.in_ok-next.was ∙ ap Ok c.in-Whole.is in
    omega (arith, forward c.args.journal.now c.loop-next.at c.in-Whole.field-0 c.in-Whole.next found)

pub loop-next-preserved : goal.loop-next-preserved
loop-next-preserved c =
    let found = sym c.read.ensures ∙ c.in_ok-next.was ∙ ap Ok c.in-Whole.is in
    sym (ap ended_by (read_more c.args.journal.now c.loop-next.at c.in-Whole.field-0 c.in-Whole.next found)) ∙ c.loop-next.invariant

pub returns-in_err-next : goal.returns-in_err-next
returns-in_err-next c =
    let stop = refused_end c.args.journal.now c.loop-next.at c.in_err-next.field-0.0 (sym c.read.ensures ∙ c.in_err-next.was) in
    let p = err_from_is_err_and c.from_residual.result c.from_residual.ensures.1 in
    rw (p.1, p.2) (sym stop ∙ c.loop-next.invariant)

pub returns : goal.returns
returns c =
    let found = sym c.read.ensures ∙ c.in_ok-next.was in
    sym (found_end c.args.journal.now c.loop-next.at c.in_ok-next.field-0 found (λ r next e. c.in_default.not-Whole r next e)) ∙ c.loop-next.invariant
