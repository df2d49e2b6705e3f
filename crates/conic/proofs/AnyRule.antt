-- The level choice and the plain chop do not see the rule. Assumes nothing.
use mathlib.Core.Path.{◌≡◌, refl}
use mathlib.Core.Bool.{Bool}
use Prim.Native.Nat.{ℕ}
use lib.Ieee.{Float}
use Rattle.conic.specs.declared.Conic.{Conic}
use Rattle.conic.specs.declared.Rule.{Rule}
use Rattle.conic.specs.Agree.{with_rule, with_rules}
use Rattle.conic.specs.Chop.{lines_at, halves_at, chop_of}
use Rattle.conic.specs.Level.{error_of, level_of, level_answer}

pub level_any_rule : (v : Rule) (m : ℕ) (short : Bool) (c : Conic) (t : Float) → level_answer m short (with_rule v c) t ≡ level_answer m short c t
unfolding error_of level_of level_answer
level_any_rule v m short c t = refl

pub chop_any_rule : (v : Rule) (c : Conic) → chop_of (with_rule v c) ≡ with_rules v (chop_of c)
unfolding lines_at halves_at chop_of
chop_any_rule v c = refl
