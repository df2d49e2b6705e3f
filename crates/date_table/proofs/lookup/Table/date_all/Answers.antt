-- `Table::date_all` meets its contract: the first time outside, or the date of each. Assumes nothing.
use Rattle.std.proofs.Common.{sym, ◌∙◌}
use Rattle.date_table.proofs.Dates.{passed}
use Rattle.date_table.proofs.Many.{some_outside, no_outside, one_outside, all_dated}
use Rattle.date_table.proofs.lookup.Table.date_all.Goals as goal

pub returns-in-Some : goal.returns-in-Some
returns-in-Some c =
    let t = c.args.self.now in
    let ts = c.args.times.now in
    let first = some_outside t.entries.now ts c.in-Some.i (sym c.first_outside.ensures ∙ c.in-Some.is) in
    let told = one_outside t.entries.now ts (passed t.entries.now t.tested) c.in-Some.i first.0 first.1 in
    record { value = told.0; times = told.1 }

pub date_each-requires : goal.date_each-requires
date_each-requires c = no_outside c.args.self.now.entries.now c.args.times.now (sym c.first_outside.ensures ∙ c.in_default.is)

pub returns : goal.returns
returns c =
    let t = c.args.self.now in
    let ts = c.args.times.now in
    let told = all_dated t.entries.now ts (passed t.entries.now t.tested) (no_outside t.entries.now ts (sym c.first_outside.ensures ∙ c.in_default.is)) in
    record { value = told.0; times = c.date_each.ensures ∙ told.1 }
