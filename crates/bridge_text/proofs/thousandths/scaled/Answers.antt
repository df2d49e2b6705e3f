-- `thousandths::scaled` meets its contract: each way is a law of `Sizes`. Assumes nothing.
use mathlib.Core.Path.{sym, ap, ◌∙◌}
use Prim.Native.Nat.{ℕ, min}
use native.Mathlib.Omega.{arith}
use Rattle.bridge_text.proofs.Sizes.{left, right, much, little}
use Rattle.bridge_text.proofs.thousandths.scaled.Goals as goal

pub returns-then-x-gt164 : goal.returns-then-x-gt164
returns-then-x-gt164 c = sym (much c.args.q c.args.x (c.requires.normal (omega arith)) c.if-x-gt164.true)

pub returns-then-x-ge149 : goal.returns-then-x-ge149
returns-then-x-ge149 c =
    c.whole.ensures ∙ ap (λ (y : ℕ). min y 1000000000000) (sym (left c.args.q c.args.x c.if-x-ge149.true))

pub returns-then-x-lt109 : goal.returns-then-x-lt109
returns-then-x-lt109 c =
    sym (little c.args.q c.args.x c.requires.significand c.if-x-lt109.true)

pub returns : goal.returns
returns c =
    c.min.ensures
    ∙ ap (λ (y : ℕ). min y 1000000000000) (c.part.ensures ∙ sym (right c.args.q c.args.x (omega arith)))
