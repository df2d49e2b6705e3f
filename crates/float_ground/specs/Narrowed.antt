-- What `narrow` answers (docs/RULES.md, "The float ground"). Definitions only.
use Rattle.std.specs.Prelude.{cond, not, ◌&&◌, ℕ, Float}
use Rattle.std.specs.Float.Ieee.Scale.{finite}
use Rattle.float_laws.specs.Narrow.{narrow_of, kept}
use Rattle.float_ground.specs.declared.narrowing.Narrowed.{Narrowed}
use Rattle.float_ground.specs.declared.narrowing.Narrowed.TheVariants.{Exact, Rounded, ToInfinity}

-- exact where the value is kept; gone to infinity where a finite value became an infinite one; else rounded
unfoldable pub narrowed_of : Float → Narrowed
narrowed_of x =
    cond (kept x) (Exact (narrow_of x)) (cond (finite x && not (finite (narrow_of x))) (ToInfinity (narrow_of x)) (Rounded (narrow_of x)))

-- the number that it carries, and what was lost, as a number
abbrev pub value_of : Narrowed → Float
value_of (Exact r) = r
value_of (Rounded r) = r
value_of (ToInfinity r) = r

abbrev pub loss_of : Narrowed → ℕ
loss_of (Exact r) = 0
loss_of (Rounded r) = 1
loss_of (ToInfinity r) = 2
