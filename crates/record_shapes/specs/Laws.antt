-- What comes back from its bits, and which bits come back. Statements only; proofs/Words and Laws prove them.
use Rattle.std.specs.Prelude.{ℕ, ◌≡◌, T, Float}
use Rattle.std.specs.Float.{binary32}
use Rattle.std.specs.Float.Ieee.{nan_bits, of_bits, to_bits}
use Rattle.conic.specs.declared.Conic.{Conic}
use Rattle.conic.specs.declared.Rule.TheVariants.{Exact}
use Rattle.conic.specs.Agree.{with_rule}
use Rattle.transform.specs.declared.Transform.{Transform}
use Rattle.records.specs.declared.ConicBits.{ConicBits}
use Rattle.records.specs.declared.TransformBits.{TransformBits}
use Rattle.record_shapes.specs.Bits.{conic_of_bits, bits_of_conic, transform_of_bits, bits_of_transform}
use Rattle.record_shapes.specs.Each.{Held, Word, Plain, back_of}
use Rattle.record_shapes.specs.Each.{EachOfConic, EachOfTransform, EachConicWord, EachTransformWord, map_conic_words, map_transform_words}

-- ---- one float, one word
-- a zero keeps its sign; NaN is one float here
abbrev pub FloatsComeBack : Type 0
FloatsComeBack = (v : Float) → Held v → of_bits binary32 (to_bits binary32 v) ≡ v

abbrev pub WordsComeBack : Type 0
WordsComeBack = (n : ℕ) → Word n → to_bits binary32 (of_bits binary32 n) ≡ back_of n

-- a NaN's pattern comes back as 0x7fc0_0000, whichever it was
abbrev pub NansComeBackAsOne : Type 0
NansComeBackAsOne = (n : ℕ) → T (nan_bits binary32 n) → to_bits binary32 (of_bits binary32 n) ≡ 2143289344

-- ---- from a shape to its bits and back
-- every number of a conic is the same, and the rule is the exact one
abbrev pub ConicsComeBack : Type 0
ConicsComeBack = (c : Conic) → EachOfConic Held c → conic_of_bits (bits_of_conic c) ≡ with_rule Exact c

-- so that a conic of that rule is as it was
abbrev pub ExactConicsComeBack : Type 0
ExactConicsComeBack = (c : Conic) → EachOfConic Held c → c.rule ≡ Exact → conic_of_bits (bits_of_conic c) ≡ c

abbrev pub TransformsComeBack : Type 0
TransformsComeBack = (t : Transform) → EachOfTransform Held t → transform_of_bits (bits_of_transform t) ≡ t

-- ---- from bits to their shape and back
-- each word is as it was, but that a NaN's pattern is 0x7fc0_0000
abbrev pub ConicBitsComeBack : Type 0
ConicBitsComeBack = (b : ConicBits) → EachConicWord Word b → bits_of_conic (conic_of_bits b) ≡ map_conic_words back_of b

abbrev pub TransformBitsComeBack : Type 0
TransformBitsComeBack = (b : TransformBits) → EachTransformWord Word b → bits_of_transform (transform_of_bits b) ≡ map_transform_words back_of b

-- so that bits without a NaN's pattern are as they were
abbrev pub PlainConicBitsComeBack : Type 0
PlainConicBitsComeBack = (b : ConicBits) → EachConicWord Plain b → bits_of_conic (conic_of_bits b) ≡ b

abbrev pub PlainTransformBitsComeBack : Type 0
PlainTransformBitsComeBack = (b : TransformBits) → EachTransformWord Plain b → bits_of_transform (transform_of_bits b) ≡ b
