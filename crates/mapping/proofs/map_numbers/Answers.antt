-- `mapping::map_numbers` meets its contract: each turn maps a pair, as `Pairs` has it, and of whole points none is left. Assumes nothing.
use borrow.Author.Tests.{eq-eqb}
use mathlib.Core.Path.{sym, ◌∙◌}
use Rattle.std.proofs.Common.{◌<◌, ◌≤◌, ◌+◌, ◌*◌, length, arith}
use lib.Ieee.{nan}
use Rattle.mapping.proofs.Pairs.{next, all, whole_points}
use Rattle.mapping.proofs.map_numbers.Goals as goal

pub loop-i-preserved : goal.loop-i-preserved
loop-i-preserved c =
    let at = c.loop-i in
    let here : 2 * at.i + 1 < length at.numbers = omega arith in
    next _ at.i at.numbers nan here c.map_point-p.ensures ∙ at.invariant

pub returns-clause-buffer : goal.returns-clause-buffer
returns-clause-buffer c =
    let at = c.loop-i in
    let even = c.if-numbers-ne0.false in
    let behind : length at.numbers ≤ 2 * at.i + 1 = omega arith in
    rw (eq-eqb _ _ even) (sym (all _ (2 * at.i) at.numbers behind) ∙ at.invariant ∙ whole_points _ _ even)
