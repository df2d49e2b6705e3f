-- The corrections after a chop, along one axis: what a test t makes of the line l from the start a to the end c (docs/RULES.md, "Conics").
-- Definitions only.
use Rattle.std.specs.Prelude.{Bool, true, cond, not, ◌&&◌, ◌||◌, Float}
use Rattle.std.specs.Float.Ieee.{lt, le}
use Rattle.std.specs.Float.Ieee.Scale.{finite}
use Rattle.float_laws.specs.Absolute.{abs_of}
use Rattle.float_laws.specs.Formula.{◌⊖◌}
use Rattle.conic.specs.declared.chopping.Line.{Line}
use Rattle.conic.specs.declared.ruling.Test.{Test}
use Rattle.conic.specs.declared.ruling.Test.TheVariants.{Never, Product, Exact}
use Rattle.conic.specs.Between.{passes}

-- the end that m is nearer to; the end c on a tie or NaN
unfoldable pub nearer_of : Float → Float → Float → Float
nearer_of a m c = cond (lt (abs_of (m ⊖ a)) (abs_of (m ⊖ c))) a c

abbrev pub middle_of : Test → Float → Float → Float → Float
middle_of t a m c = cond (passes t a m c) m (nearer_of a m c)

-- the middle to the nearer end, then the controls, against that middle, to the start and to the end
unfoldable pub ordered_of : Test → Float → Float → Line → Line
ordered_of t a c l =
    let m = middle_of t a l.middle c in
    record {
      left = cond (passes t a l.left m) l.left a;
      middle = m;
      right = cond (passes t m l.right c) l.right c;
    }

-- the line passes the tests as it is
abbrev pub in_order : Test → Float → Float → Line → Bool
in_order t a c l = (passes t a l.middle c && passes t a l.left l.middle) && passes t l.middle l.right c

-- put in order, only where the conic's control b passes the test
unfoldable pub mended_of : Test → Float → Float → Float → Line → Line
mended_of t a b c l = cond (passes t a b c) (ordered_of t a c l) l

-- left as it is: it passes, or the control does not
abbrev pub stays_of : Test → Float → Float → Float → Line → Bool
stays_of t a b c l = in_order t a c l || not (passes t a b c)

-- ---- a line that runs one way
unfoldable pub rises_of : Float → Float → Float → Float → Float → Bool
rises_of a left middle right c = ((le a left && le left middle) && le middle right) && le right c

-- it only rises or only falls from a to c; ties are allowed
unfoldable pub runs_of : Float → Float → Line → Bool
runs_of a c l = rises_of a l.left l.middle l.right c || rises_of c l.right l.middle l.left a

-- and the distance, as computed, is finite: no difference on the way is an infinity then
unfoldable pub settled_of : Float → Float → Line → Bool
settled_of a c l = runs_of a c l && finite (c ⊖ a)

-- settled, or no test asks it
abbrev pub settled_by : Test → Float → Float → Line → Bool
settled_by Never a c l = true
settled_by Product a c l = settled_of a c l
settled_by Exact a c l = settled_of a c l
