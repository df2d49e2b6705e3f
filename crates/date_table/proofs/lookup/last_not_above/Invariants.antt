-- What the halving keeps of the two places, and that they come nearer. Assumes nothing.
use Rattle.std.proofs.Common.{◌-◌}
use Rattle.date_table.specs.Search.{Bracket}
use Rattle.date_table.proofs.lookup.last_not_above.Given as goal

abbrev pub invariant-loop-high : goal.invariant-loop-high
invariant-loop-high l = Bracket l.table l.r l.low l.high

abbrev pub decreases-loop-high : goal.decreases-loop-high
decreases-loop-high l = l.high - l.low
