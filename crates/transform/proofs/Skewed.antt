-- The kinds of a transform exclude each other, so that a skew may be asked for first. Assumes nothing.
use mathlib.Core.Path.{◌≡◌, refl}
use mathlib.Core.Bool.{Bool, true, false, cond, not, ◌&&◌, ◌||◌, beq}
use Rattle.point.specs.declared.Point.{Point}
use Rattle.transform.specs.declared.Transform.{Transform}
use Rattle.transform.specs.Kinds.{has_scale, has_skew, has_translate, has_only, is_identity, is_translate, is_scale_translate}
use Rattle.transform.specs.Mapped.{map_point, translated_of, scaled_of, skewed_of}

-- by whether it scales, skews and moves: whether it moves or does not, and nothing else
abbrev only : Bool → Bool → Bool → Bool → Bool
only a b c z = beq a false && beq b false && beq c z

by_kinds : (a b c : Bool) (p q r s : Point) → cond (only a b c false) p (cond (only a b c true) q (cond ((a || c) && not b) r s))
    ≡ cond b s (cond (only a b c false) p (cond (only a b c true) q r))
by_kinds true true true p q r s = refl
by_kinds true true false p q r s = refl
by_kinds true false true p q r s = refl
by_kinds true false false p q r s = refl
by_kinds false true true p q r s = refl
by_kinds false true false p q r s = refl
by_kinds false false true p q r s = refl
by_kinds false false false p q r s = refl

pub skew_first : (t : Transform) (p : Point)
    → map_point t p ≡ cond (has_skew t) (skewed_of t p) (cond (is_identity t) p (cond (is_translate t) (translated_of t p) (scaled_of t p)))
unfolding map_point has_only is_scale_translate
skew_first t p = by_kinds (has_scale t) (has_skew t) (has_translate t) p (translated_of t p) (scaled_of t p) (skewed_of t p)
