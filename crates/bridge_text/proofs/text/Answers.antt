-- `text` meets its contract: it goes by whether the size has columns. Assumes nothing.
use mathlib.Core.Path.{◌∙◌}
use borrow.Author.Tests.{lt-ltb, le-ltb}
use Rattle.bridge_text.specs.Text.{text_of}
use Rattle.bridge_text.proofs.text.Goals as goal

pub returns-then-n-lt1000000000000 : goal.returns-then-n-lt1000000000000
unfolding text_of
returns-then-n-lt1000000000000 c = c.columns.ensures ∙ rw (← c.thousandths-n.ensures, lt-ltb _ _ c.if-n-lt1000000000000.true)

pub returns-else-n-lt1000000000000 : goal.returns-else-n-lt1000000000000
unfolding text_of
returns-else-n-lt1000000000000 c = rw (← c.thousandths-n.ensures, le-ltb _ _ c.if-n-lt1000000000000.false)
