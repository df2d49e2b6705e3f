-- `reading::has_form` meets its contract: each answer goes by the tests that led to it. Assumes nothing.
use Rattle.std.proofs.Common.{le-ltb, lt-ltb}
use Rattle.bridge_lines.proofs.reading.has_form.Goals as goal

pub returns-then-place-lt7 : goal.returns-then-place-lt7
returns-then-place-lt7 c = rw (lt-ltb _ _ c.if-place-lt7.true, ← c.without_sign.ensures) c.is_whole.ensures

pub returns-then-place-lt8 : goal.returns-then-place-lt8
returns-then-place-lt8 c =
    rw
    (le-ltb _ _ c.if-place-lt7.false, lt-ltb _ _ c.if-place-lt8.true, ← c.without_sign-then-place-lt8.ensures)
    c.is_decimal.ensures

pub returns : goal.returns
returns c = rw (le-ltb _ _ c.if-place-lt7.false, le-ltb _ _ c.if-place-lt8.false) c.is_whole-2.ensures
