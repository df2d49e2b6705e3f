-- `store_tested` meets its contract: the numbers at the front of the buffer are the rounded ones, and these are copied. Assumes nothing.
use Rattle.std.proofs.Common.{ℕ, List, ◌++◌, drop, sym, ap, ◌∙◌}
use Rattle.point.specs.Numbers.{points_of}
use Rattle.conic_cut.proofs.Lists.{sets_whole}
use Rattle.date_table.specs.Making.{rounded_of}
use Rattle.date_table.proofs.Answers.{in_front}
use Rattle.date_table.proofs.making.store_tested.Goals as goal

pub returns-clause-table : goal.returns-clause-table
returns-clause-table c =
    let a = c.args in
    let t = rounded_of (points_of a.points.now) in
    let front = in_front t c.round_into.new.out a.rounded.now a.n c.round_into.ensures c.requires.numbers c.requires.rounded_room in
    ap (λ (m : List ℕ). m ++ drop a.n a.table.now) (c.copy_from_slice.ensures.after ∙ front)
    ∙ sym (sets_whole t a.table.now a.n c.requires.numbers c.requires.table_room)
