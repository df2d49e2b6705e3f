-- `columns::mark` meets its contract: it goes by where the first digit is. Assumes nothing.
use mathlib.Core.Path.{◌∙◌}
use borrow.Author.Tests.{le-leb, lt-leb}
use Rattle.bridge_text.proofs.columns.mark.Goals as goal

pub returns-then-p-m : goal.returns-then-p-m
returns-then-p-m c = c.digit.ensures ∙ rw (← c.max-m.ensures, le-leb _ _ c.if-p-m.true)

pub returns-then-negative-p : goal.returns-then-negative-p
returns-then-negative-p c = rw (← c.max-m.ensures, lt-leb _ _ c.if-p-m.false, c.if-negative-p.true)

pub returns-else-negative-p : goal.returns-else-negative-p
returns-else-negative-p c = rw (← c.max-m.ensures, lt-leb _ _ c.if-p-m.false, c.if-negative-p.false)
