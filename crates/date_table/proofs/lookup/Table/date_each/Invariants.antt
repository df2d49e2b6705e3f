-- The invariant of the loop of `Table::date_each`: the times before the one at hand are dates, and the rest are as they were. Assumes nothing.
use Rattle.std.proofs.Common.{◌≡◌, map}
use lib.Seq.{paste}
use Rattle.date_table.specs.Table.{date_in}
use Rattle.date_table.proofs.lookup.Table.date_each.Given as goal

abbrev pub invariant-loop-r : goal.invariant-loop-r
invariant-loop-r l = l.times ≡ paste l.initial.times 0 (map (date_in l.self.entries.now) l.initial.times) l.r-index
