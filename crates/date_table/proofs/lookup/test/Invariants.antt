-- The invariant of the loop of `test`: what is left of the table is within the range as the whole is, and what was found of the order,
-- with the order of the entry before and what is left, is the order of the whole. Assumes nothing.
use Rattle.std.proofs.Common.{◌≡◌, ◌*◌, ◌&&◌, ◌∷◌, drop}
use Rattle.date_table.specs.Table.{within, rising}
use Rattle.date_table.proofs.lookup.test.Given as goal

abbrev pub invariant-loop-i : goal.invariant-loop-i
invariant-loop-i l =
    (within (drop (2 * l.i) l.table) ≡ within l.table)
    × ((l.rises && rising (l.x ∷ l.y ∷ drop (2 * l.i) l.table)) ≡ rising l.table)
