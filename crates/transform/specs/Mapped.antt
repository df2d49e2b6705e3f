-- Where a transform maps a point, by its kind (docs/RULES.md, "Transforms"). Definitions only.
use Rattle.std.specs.Prelude.{cond}
use Rattle.float_laws.specs.Formula.{◌⊕◌, ◌⊗◌}
use Rattle.point.specs.declared.Point.{Point}
use Rattle.point.specs.Point.{point_from}
use Rattle.transform.specs.declared.Transform.{Transform}
use Rattle.transform.specs.Kinds.{is_identity, is_translate, is_scale_translate}

abbrev pub translated_of : Transform → Point → Point
translated_of t p = point_from (p.x ⊕ t.tx) (p.y ⊕ t.ty)

abbrev pub scaled_of : Transform → Point → Point
scaled_of t p = point_from (p.x ⊗ t.sx ⊕ t.tx) (p.y ⊗ t.sy ⊕ t.ty)

abbrev pub skewed_of : Transform → Point → Point
skewed_of t p = point_from (p.x ⊗ t.sx ⊕ p.y ⊗ t.kx ⊕ t.tx) (p.x ⊗ t.ky ⊕ p.y ⊗ t.sy ⊕ t.ty)

unfoldable pub map_point : Transform → Point → Point
map_point t p =
    cond (is_identity t) p (cond (is_translate t) (translated_of t p) (cond (is_scale_translate t) (scaled_of t p) (skewed_of t p)))
