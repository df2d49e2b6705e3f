-- A conic and a transform as records keep them, each number as the 32 bits of its f32, and back. Definitions only.
use Rattle.std.specs.Prelude.{ℕ}
use Rattle.std.specs.Float.{binary32}
use Rattle.std.specs.Float.Ieee.{of_bits, to_bits}
use Rattle.point.specs.declared.Point.{Point}
use Rattle.point.specs.Point.{point_from}
use Rattle.conic.specs.declared.Conic.{Conic}
use Rattle.conic.specs.declared.Rule.TheVariants.{Exact}
use Rattle.conic.specs.Chop.{conic_from}
use Rattle.transform.specs.declared.Transform.{Transform}
use Rattle.transform.specs.Row.{row_of}
use Rattle.records.specs.declared.ConicBits.{ConicBits}
use Rattle.records.specs.declared.TransformBits.{TransformBits}

abbrev pub point_of_bits : ℕ → ℕ → Point
point_of_bits x y = point_from (of_bits binary32 x) (of_bits binary32 y)

-- by the exact rule
unfoldable pub conic_of_bits : ConicBits → Conic
conic_of_bits b =
    conic_from (point_of_bits b.x0 b.y0) (point_of_bits b.x1 b.y1) (point_of_bits b.x2 b.y2) (of_bits binary32 b.weight) Exact

-- whatever the rule
unfoldable pub bits_of_conic : Conic → ConicBits
bits_of_conic c = record {
  x0 = to_bits binary32 c.p0.x;
  y0 = to_bits binary32 c.p0.y;
  x1 = to_bits binary32 c.p1.x;
  y1 = to_bits binary32 c.p1.y;
  x2 = to_bits binary32 c.p2.x;
  y2 = to_bits binary32 c.p2.y;
  weight = to_bits binary32 c.weight;
}

unfoldable pub transform_of_bits : TransformBits → Transform
transform_of_bits b =
    row_of (of_bits binary32 b.sx) (of_bits binary32 b.ky) (of_bits binary32 b.kx) (of_bits binary32 b.sy) (of_bits binary32 b.tx)
    (of_bits binary32 b.ty)

unfoldable pub bits_of_transform : Transform → TransformBits
bits_of_transform t = record {
  sx = to_bits binary32 t.sx;
  ky = to_bits binary32 t.ky;
  kx = to_bits binary32 t.kx;
  sy = to_bits binary32 t.sy;
  tx = to_bits binary32 t.tx;
  ty = to_bits binary32 t.ty;
}
