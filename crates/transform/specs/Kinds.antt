-- What kind of transform it is (docs/RULES.md, "Transforms"). Definitions only.
use Rattle.std.specs.Prelude.{Bool, true, false, not, ◌&&◌, ◌||◌, Float}
use Rattle.std.specs.Bool.{beq}
use Rattle.std.specs.Float.{binary32}
use Rattle.std.specs.Float.Ieee.{of_bits, ne, le}
use Rattle.std.specs.Float.Ieee.Scale.{finite}
use Rattle.float_laws.specs.Absolute.{abs_of}
use Rattle.float_laws.specs.Formula.{◌⊕◌, ◌⊗◌, zero32, one32}
use Rattle.float_laws.specs.Root.{root_of}
use Rattle.transform.specs.declared.Transform.{Transform}
use Rattle.transform.specs.declared.kinds.Scale.{Scale}

-- ---- the three parts: one of two numbers is not what it is in the identity
abbrev pub differs : Float → Float → Float → Bool
differs a b nothing = ne a nothing || ne b nothing

abbrev pub has_scale : Transform → Bool
has_scale t = differs t.sx t.sy one32

abbrev pub has_skew : Transform → Bool
has_skew t = differs t.kx t.ky zero32

abbrev pub has_translate : Transform → Bool
has_translate t = differs t.tx t.ty zero32

-- ---- the kinds: it has these parts and no others
unfoldable pub has_only : Bool → Bool → Bool → Transform → Bool
has_only scale skew translate t = beq (has_scale t) scale && beq (has_skew t) skew && beq (has_translate t) translate

abbrev pub is_identity : Transform → Bool
is_identity = has_only false false false

abbrev pub is_scale : Transform → Bool
is_scale = has_only true false false

abbrev pub is_skew : Transform → Bool
is_skew = has_only false true false

abbrev pub is_translate : Transform → Bool
is_translate = has_only false false true

unfoldable pub is_scale_translate : Transform → Bool
is_scale_translate t = (has_scale t || has_translate t) && not (has_skew t)

-- ---- finite, and not nearly flat
unfoldable pub is_finite : Transform → Bool
is_finite t = finite t.sx && finite t.ky && finite t.kx && finite t.sy && finite t.tx && finite t.ty

unfoldable pub scales_of : Transform → Scale
scales_of t = record {
  x = root_of binary32 (t.sx ⊗ t.sx ⊕ t.kx ⊗ t.kx);
  y = root_of binary32 (t.ky ⊗ t.ky ⊕ t.sy ⊗ t.sy);
}

abbrev pub nearly_zero : Float → Float → Bool
nearly_zero x tolerance = le (abs_of x) tolerance

-- 2^-23
abbrev pub epsilon : Float
epsilon = of_bits binary32 0x3400_0000

abbrev pub is_valid : Transform → Bool
is_valid t = is_finite t && not (nearly_zero (scales_of t).x epsilon || nearly_zero (scales_of t).y epsilon)
