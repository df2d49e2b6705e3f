-- `decimal::with_digit` meets its contract: each answer goes by the tests that led to it. Assumes nothing.
use Rattle.std.proofs.Common.{sym, ◌∙◌, arith}
use Rattle.bridge_lines.specs.Decimal.{size_after}
use Rattle.bridge_lines.proofs.decimal.with_digit.Goals as goal

pub returns-then-not-is_ascii_digit : goal.returns-then-not-is_ascii_digit
unfolding size_after
returns-then-not-is_ascii_digit c = rw (sym c.is_ascii_digit.ensures.value ∙ c.if-not-is_ascii_digit.true) (omega arith)

pub returns-then-n-lt100000000 : goal.returns-then-n-lt100000000
unfolding size_after
returns-then-n-lt100000000 c =
    rw (sym c.is_ascii_digit.ensures.value ∙ c.if-not-is_ascii_digit.false) (omega (arith, c.if-not-is_ascii_digit.ensures.cases))

pub returns-else-n-lt100000000 : goal.returns-else-n-lt100000000
unfolding size_after
returns-else-n-lt100000000 c =
    rw (sym c.is_ascii_digit.ensures.value ∙ c.if-not-is_ascii_digit.false) (omega arith)
