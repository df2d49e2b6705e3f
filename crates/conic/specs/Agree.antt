-- Where the rules of two conics that differ in their rule alone answer every question of a chop alike, or leave its lines as they are
-- (docs/RULES.md, "Conics"). Definitions only.
use Rattle.std.specs.Prelude.{◌≡◌, true, ◌⊎◌, T, Float}
use Rattle.conic.specs.declared.Conic.{Conic}
use Rattle.conic.specs.declared.Halves.{Halves}
use Rattle.conic.specs.declared.Rule.{Rule}
use Rattle.conic.specs.declared.chopping.Line.{Line}
use Rattle.conic.specs.declared.ruling.Test.{Test}
use Rattle.conic.specs.Between.{passes}
use Rattle.conic.specs.Chop.{conic_from, along, on, lines_of}
use Rattle.conic.specs.Mend.{middle_of, stays_of}
use Rattle.conic.specs.Rule.{Axis, test_along}

-- the conic with another rule, and nothing else changed
abbrev pub with_rule : Rule → Conic → Conic
with_rule v c = conic_from c.p0 c.p1 c.p2 c.weight v

abbrev pub with_rules : Rule → Halves → Halves
with_rules v h = record { first = with_rule v h.first; second = with_rule v h.second }

abbrev pub Alike : Test → Test → Float → Float → Float → Type 0
Alike s t a b c = passes s a b c ≡ passes t a b c

-- of the middle, and of the controls against the middle as s moves it
pub record LineAlike (s t : Test) (a c : Float) (l : Line) : Type 0 where
  pub middle : Alike s t a l.middle c
  pub left : Alike s t a l.left (middle_of s a l.middle c)
  pub right : Alike s t (middle_of s a l.middle c) l.right c

-- of a conic's own middle b, and where that passes, of the line of the chop
pub record TestsAlike (s t : Test) (a b c : Float) (l : Line) : Type 0 where
  pub control : Alike s t a b c
  pub chopped : T (passes s a b c) → LineAlike s t a c l

-- both leave the line as it is, as a test that nothing passes always does
abbrev pub BothLeave : Test → Test → Float → Float → Float → Line → Type 0
BothLeave s t a b c l = (stays_of s a b c l ≡ true) × (stays_of t a b c l ≡ true)

abbrev pub AxisAlike : Test → Test → Float → Float → Float → Line → Type 0
AxisAlike s t a b c l = TestsAlike s t a b c l ⊎ BothLeave s t a b c l

-- along each axis, of the conic's rule and of v
abbrev pub ChopAlike : Rule → Conic → Type 0
ChopAlike v c =
    (k : Axis)
    → AxisAlike (test_along k c.rule) (test_along k v) (along k c.p0) (along k c.p1) (along k c.p2) (on k (lines_of c))
