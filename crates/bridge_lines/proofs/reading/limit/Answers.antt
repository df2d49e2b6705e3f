-- `reading::limit` meets its contract: each answer goes by the tests that led to it. Assumes nothing.
use Rattle.std.proofs.Common.{le-ltb, lt-ltb}
use Rattle.bridge_lines.proofs.reading.limit.Goals as goal

pub returns-then-place-lt7 : goal.returns-then-place-lt7
returns-then-place-lt7 c = simp (lt-ltb _ _ c.if-place-lt7.true)

pub returns-then-place-lt8 : goal.returns-then-place-lt8
returns-then-place-lt8 c = simp (le-ltb _ _ c.if-place-lt7.false, lt-ltb _ _ c.if-place-lt8.true)

pub returns-else-place-lt8 : goal.returns-else-place-lt8
returns-else-place-lt8 c = simp (le-ltb _ _ c.if-place-lt7.false, le-ltb _ _ c.if-place-lt8.false)
