-- What a chop makes of a conic: the formulas, operation by operation, for one axis at a time (docs/RULES.md, "Conics"). Definitions only.
use Rattle.std.specs.Prelude.{Bool, cond, ◌&&◌, Float}
use Rattle.std.specs.Float.{binary32}
use Rattle.float_laws.specs.Formula.{◌⊕◌, ◌⊗◌, ◌⊘◌, ◌⊞◌, ◌⊠◌, ◌⧄◌, half32, one32, half64, one64, two64}
use Rattle.float_laws.specs.Narrow.{narrow_of}
use Rattle.float_laws.specs.Root.{root_of}
use Rattle.point.specs.declared.Point.{Point}
use Rattle.point.specs.Point.{point_from, point_finite}
use Rattle.conic.specs.declared.Conic.{Conic}
use Rattle.conic.specs.declared.Halves.{Halves}
use Rattle.conic.specs.declared.Rule.{Rule}
use Rattle.conic.specs.declared.chopping.Line.{Line}
use Rattle.conic.specs.declared.chopping.Lines.{Lines}
use Rattle.conic.specs.declared.depth.Depth.{Depth}
use Rattle.conic.specs.declared.ruling.Test.{Test}
use Rattle.conic.specs.Mend.{mended_of, settled_by}
use Rattle.conic.specs.Rule.{Axis, X, Y, test_along}

abbrev pub conic_from : Point → Point → Point → Float → Rule → Conic
conic_from a b c w u = record { p0 = a; p1 = b; p2 = c; weight = w; rule = u }

abbrev pub along : Axis → Point → Float
along X p = p.x
along Y p = p.y

abbrev pub on : Axis → Lines → Line
on X l = l.x
on Y l = l.y

-- ---- one axis: start a, control b, end c; weight w, and its scale s
abbrev pub scale_of : Float → Float
scale_of w = one32 ⊘ (one32 ⊕ w)

unfoldable pub line_of : Float → Float → Float → Float → Float → Line
line_of a b c w s =
    let wb = w ⊗ b in
    record {
      left = (a ⊕ wb) ⊗ s;
      middle = (a ⊕ (wb ⊕ wb) ⊕ c) ⊗ s ⊗ half32;
      right = (wb ⊕ c) ⊗ s;
    }

-- the middle through f64, narrowed once
unfoldable pub wide_middle : Float → Float → Float → Float → Float
wide_middle a b c w =
    let scaleHalf = one64 ⧄ (one64 ⊞ w) ⊠ half64 in
    narrow_of ((a ⊞ w ⊠ two64 ⊠ b ⊞ c) ⊠ scaleHalf)

-- ---- both axes, at the scale s
abbrev pub plain_line : Float → Axis → Conic → Line
plain_line s k c = line_of (along k c.p0) (along k c.p1) (along k c.p2) c.weight s

abbrev pub with_middle : Line → Float → Line
with_middle l m = record { left = l.left; middle = m; right = l.right }

abbrev pub wide_line : Float → Axis → Conic → Line
wide_line s k c = with_middle (plain_line s k c) (wide_middle (along k c.p0) (along k c.p1) (along k c.p2) c.weight)

abbrev pub plain_lines : Float → Conic → Lines
plain_lines s c = record { x = plain_line s X c; y = plain_line s Y c }

-- the middle point passes the crate's finite test
abbrev pub whole_middle : Lines → Bool
whole_middle l = point_finite (point_from l.x.middle l.y.middle)

-- both middles through f64 where that of the plain lines does not pass
unfoldable pub lines_at : Float → Conic → Lines
lines_at s c = cond (whole_middle (plain_lines s c)) (plain_lines s c) (record { x = wide_line s X c; y = wide_line s Y c })

abbrev pub lines_of : Conic → Lines
lines_of c = lines_at (scale_of c.weight) c

abbrev pub weight_of : Float → Float
weight_of w = root_of binary32 (half32 ⊕ w ⊗ half32)

-- the halves that these lines make, of weight w, with the conic's rule
unfoldable pub halves_at : Float → Conic → Lines → Halves
halves_at w c l =
    let m = point_from l.x.middle l.y.middle in
    record {
      first = conic_from c.p0 (point_from l.x.left l.y.left) m w c.rule;
      second = conic_from m (point_from l.x.right l.y.right) c.p2 w c.rule;
    }

unfoldable pub chop_of : Conic → Halves
chop_of c = halves_at (weight_of c.weight) c (lines_of c)

-- ---- a chop by the conic's rule
abbrev pub mended_line : Axis → Conic → Line → Line
mended_line k c l = mended_of (test_along k c.rule) (along k c.p0) (along k c.p1) (along k c.p2) l

abbrev pub mended_lines : Conic → Lines → Lines
mended_lines c l = record { x = mended_line X c l.x; y = mended_line Y c l.y }

-- the same by a test for each axis
abbrev pub mended_by : Test → Test → Conic → Lines → Lines
mended_by t u c l =
    record { x = mended_of t c.p0.x c.p1.x c.p2.x l.x; y = mended_of u c.p0.y c.p1.y c.p2.y l.y }

-- a line is settled, if its rule puts it in order; and both are, so that no rule moves them (`StaysByEveryRule` of Laws)
abbrev pub settled_line : Axis → Conic → Line → Bool
settled_line k c l = settled_by (test_along k c.rule) (along k c.p0) (along k c.p2) l

abbrev pub settled_lines : Conic → Lines → Bool
settled_lines c l = settled_line Y c l.y && settled_line X c l.x

-- what all conics of weight w share
abbrev pub depth_of : Float → Depth
depth_of w = record { scale = scale_of w; weight = weight_of w }

unfoldable pub chop_at : Depth → Conic → Halves
chop_at d c = halves_at d.weight c (mended_lines c (lines_at d.scale c))

unfoldable pub chop_by_rule : Conic → Halves
unfolding chop_at
chop_by_rule c = chop_at (depth_of c.weight) c
