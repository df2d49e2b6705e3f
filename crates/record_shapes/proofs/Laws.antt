-- A shape comes back from its bits, and bits from their shape, number by number. Assumes nothing.
use mathlib.Core.Path.{◌≡◌, ◌∙◌}
use Prim.Native.Nat.{ℕ}
use lib.Ieee.{binary32, of_bits, to_bits}
use Rattle.records.specs.declared.ConicBits.{ConicBits}
use Rattle.records.specs.declared.TransformBits.{TransformBits}
use Rattle.record_shapes.specs.Bits.{conic_of_bits, bits_of_conic, transform_of_bits, bits_of_transform}
use Rattle.record_shapes.specs.Each.{EachConicWord, EachTransformWord, map_conic_words, map_transform_words}
use Rattle.record_shapes.specs.Laws.{ConicsComeBack, ExactConicsComeBack, TransformsComeBack}
use Rattle.record_shapes.specs.Laws.{ConicBitsComeBack, TransformBitsComeBack, PlainConicBitsComeBack, PlainTransformBitsComeBack}
use Rattle.record_shapes.proofs.Words.{floats_back, plain_back, words_back}

pub conics_back : ConicsComeBack
unfolding conic_of_bits bits_of_conic
conics_back c h = rw (
  floats_back c.p0.x h.0,
  floats_back c.p0.y h.1,
  floats_back c.p1.x h.2,
  floats_back c.p1.y h.3,
  floats_back c.p2.x h.4,
  floats_back c.p2.y h.5,
  floats_back c.weight h.6,
)

pub exact_conics_back : ExactConicsComeBack
exact_conics_back c h e = conics_back c h ∙ rw (← e)

pub transforms_back : TransformsComeBack
unfolding transform_of_bits bits_of_transform
transforms_back t h = rw (
  floats_back t.sx h.0,
  floats_back t.ky h.1,
  floats_back t.kx h.2,
  floats_back t.sy h.3,
  floats_back t.tx h.4,
  floats_back t.ty h.5,
)

-- ---- bits of which each word has P, where such a word comes back as f of it
module _ {P : ℕ → Type 0} {f : ℕ → ℕ} (back : (n : ℕ) → P n → to_bits binary32 (of_bits binary32 n) ≡ f n) where
  conic_words : (b : ConicBits) → EachConicWord P b → bits_of_conic (conic_of_bits b) ≡ map_conic_words f b
  unfolding conic_of_bits bits_of_conic
  conic_words b h = rw (
    back b.x0 h.0,
    back b.y0 h.1,
    back b.x1 h.2,
    back b.y1 h.3,
    back b.x2 h.4,
    back b.y2 h.5,
    back b.weight h.6,
  )

  transform_words : (b : TransformBits) → EachTransformWord P b → bits_of_transform (transform_of_bits b) ≡ map_transform_words f b
  unfolding transform_of_bits bits_of_transform
  transform_words b h = rw (
    back b.sx h.0,
    back b.ky h.1,
    back b.kx h.2,
    back b.sy h.3,
    back b.tx h.4,
    back b.ty h.5,
  )

pub conic_bits_back : ConicBitsComeBack
conic_bits_back = conic_words words_back

pub transform_bits_back : TransformBitsComeBack
transform_bits_back = transform_words words_back

pub plain_conic_bits_back : PlainConicBitsComeBack
plain_conic_bits_back = conic_words plain_back

pub plain_transform_bits_back : PlainTransformBitsComeBack
plain_transform_bits_back = transform_words plain_back
