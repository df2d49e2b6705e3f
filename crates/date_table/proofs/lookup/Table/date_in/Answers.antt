-- `Table::date_in` meets its contract: the search ends at the last entry, or before another. Assumes nothing.
use Rattle.std.proofs.Common.{◌∙◌}
use Rattle.date_table.proofs.Found.{start, here}
use Rattle.date_table.proofs.lookup.Table.date_in.Goals as goal

pub last_not_above-at-requires : goal.last_not_above-at-requires
last_not_above-at-requires c = let t = c.args.self.now in start t.entries.now c.args.r t.tested c.requires.not_before c.requires.not_behind

pub returns-then-n-at-lt4 : goal.returns-then-n-at-lt4
returns-then-n-at-lt4 c =
    let t = c.args.self.now in
    (here t.entries.now c.args.r t.tested c.requires.not_before c.requires.not_behind _ c.last_not_above-at.ensures).end c.if-n-at-lt4.true

pub part_way-requires-clause-rising : goal.part_way-requires-clause-rising
part_way-requires-clause-rising c =
    let t = c.args.self.now in
    (here t.entries.now c.args.r t.tested c.requires.not_before c.requires.not_behind _ c.last_not_above-at.ensures).next_y c.if-n-at-lt4.false

pub returns : goal.returns
returns c =
    let t = c.args.self.now in
    c.part_way.ensures
    ∙ (here t.entries.now c.args.r t.tested c.requires.not_before c.requires.not_behind _ c.last_not_above-at.ensures).span c.if-n-at-lt4.false
