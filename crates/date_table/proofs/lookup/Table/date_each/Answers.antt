-- `Table::date_each` meets its contract: the time at hand is as it was, so not outside, and its date is stored. Assumes nothing.
use Rattle.std.proofs.Common.{ℕ, List, get_or, set, ap, ◌∙◌}
use Rattle.date_table.specs.Table.{outside, date_in}
use Rattle.date_table.proofs.Many.{inside_of, none-outside, paste_at, paste_next}
use Rattle.date_table.proofs.lookup.Table.date_each.Goals as goal

pub date_in-requires : goal.date_in-requires
date_in-requires c =
    let at = c.loop-r in
    let l = c.args.self.now.entries.now in
    let ts = c.args.times.now in
    let h = c.loop-r-test.true in
    let was = ap (λ (m : List ℕ). get_or m at.r-index 0) at.invariant ∙ paste_at (date_in l) ts at.r-index h in
    let q = inside_of l (get_or at.times at.r-index 0) (ap (outside l) was ∙ none-outside l ts at.r-index c.requires h) in
    record { not_before = q.0; not_behind = q.1 }

pub loop-r-preserved : goal.loop-r-preserved
loop-r-preserved c =
    let at = c.loop-r in
    let l = c.args.self.now.entries.now in
    let ts = c.args.times.now in
    let h = c.loop-r-test.true in
    let was = ap (λ (m : List ℕ). get_or m at.r-index 0) at.invariant ∙ paste_at (date_in l) ts at.r-index h in
    ap (λ (m : List ℕ). set m at.r-index c.date_in.result) at.invariant
    ∙ paste_next (date_in l) ts at.r-index h c.date_in.result (c.date_in.ensures ∙ ap (date_in l) was)
