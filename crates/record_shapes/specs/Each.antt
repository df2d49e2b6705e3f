-- What is said of each number of a conic or a transform, and of each word of its bits; and what a word comes back as.
-- Definitions only.
use Rattle.std.specs.Prelude.{ℕ, ◌^◌, ◌<◌, not, cond, T, Float}
use Rattle.std.specs.Float.{binary32}
use Rattle.std.specs.Float.Ieee.{fits, nan_bits}
use Rattle.conic.specs.declared.Conic.{Conic}
use Rattle.transform.specs.declared.Transform.{Transform}
use Rattle.records.specs.declared.ConicBits.{ConicBits}
use Rattle.records.specs.declared.TransformBits.{TransformBits}

-- ---- one number, one word
-- an f32 holds it
abbrev pub Held : Float → Type 0
Held v = T (fits binary32 v)

abbrev pub Word : ℕ → Type 0
Word n = n < 2 ^ 32

-- a word that is no NaN's pattern
abbrev pub Plain : ℕ → Type 0
Plain n = Word n × T (not (nan_bits binary32 n))

-- 0x7fc0_0000 for every NaN's pattern, and else the word itself
abbrev pub back_of : ℕ → ℕ
back_of n = cond (nan_bits binary32 n) 2143289344 n

-- ---- each of them
abbrev pub EachOfConic : (Float → Type 0) → Conic → Type 0
EachOfConic P c = P c.p0.x × P c.p0.y × P c.p1.x × P c.p1.y × P c.p2.x × P c.p2.y × P c.weight

abbrev pub EachOfTransform : (Float → Type 0) → Transform → Type 0
EachOfTransform P t = P t.sx × P t.ky × P t.kx × P t.sy × P t.tx × P t.ty

abbrev pub EachConicWord : (ℕ → Type 0) → ConicBits → Type 0
EachConicWord P b = P b.x0 × P b.y0 × P b.x1 × P b.y1 × P b.x2 × P b.y2 × P b.weight

abbrev pub EachTransformWord : (ℕ → Type 0) → TransformBits → Type 0
EachTransformWord P b = P b.sx × P b.ky × P b.kx × P b.sy × P b.tx × P b.ty

abbrev pub map_conic_words : (ℕ → ℕ) → ConicBits → ConicBits
map_conic_words f b = record {
  x0 = f b.x0;
  y0 = f b.y0;
  x1 = f b.x1;
  y1 = f b.y1;
  x2 = f b.x2;
  y2 = f b.y2;
  weight = f b.weight;
}

abbrev pub map_transform_words : (ℕ → ℕ) → TransformBits → TransformBits
map_transform_words f b = record {
  sx = f b.sx;
  ky = f b.ky;
  kx = f b.kx;
  sy = f b.sy;
  tx = f b.tx;
  ty = f b.ty;
}
