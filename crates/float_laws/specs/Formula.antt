-- How formulas are written. Each operation rounds once: a circle to binary32, a box to binary64. And the constants in them
-- (docs/RULES.md, "Sameness"). Definitions only.
use Rattle.std.specs.Prelude.{Float}
use Rattle.std.specs.Float.{binary32, binary64}
use Rattle.std.specs.Float.Ieee.{add, sub, mul, div, of_bits}

infixl 65 ◌⊕◌ ◌⊖◌ ◌⊞◌ ◌⊟◌
infixl 70 ◌⊗◌ ◌⊘◌ ◌⊠◌ ◌⧄◌
abbrev pub ◌⊕◌ : Float → Float → Float
x ⊕ y = add binary32 x y

abbrev pub ◌⊖◌ : Float → Float → Float
x ⊖ y = sub binary32 x y

abbrev pub ◌⊗◌ : Float → Float → Float
x ⊗ y = mul binary32 x y

abbrev pub ◌⊘◌ : Float → Float → Float
x ⊘ y = div binary32 x y

abbrev pub ◌⊞◌ : Float → Float → Float
x ⊞ y = add binary64 x y

abbrev pub ◌⊟◌ : Float → Float → Float
x ⊟ y = sub binary64 x y

abbrev pub ◌⊠◌ : Float → Float → Float
x ⊠ y = mul binary64 x y

abbrev pub ◌⧄◌ : Float → Float → Float
x ⧄ y = div binary64 x y

-- ---- as the compiler has them: a format's pattern
abbrev pub zero32 : Float
zero32 = of_bits binary32 0

abbrev pub minus_zero32 : Float
minus_zero32 = of_bits binary32 0x8000_0000

abbrev pub quarter32 : Float
quarter32 = of_bits binary32 0x3e80_0000

abbrev pub half32 : Float
half32 = of_bits binary32 0x3f00_0000

abbrev pub one32 : Float
one32 = of_bits binary32 0x3f80_0000

abbrev pub two32 : Float
two32 = of_bits binary32 0x4000_0000

abbrev pub three32 : Float
three32 = of_bits binary32 0x4040_0000

abbrev pub four32 : Float
four32 = of_bits binary32 0x4080_0000

abbrev pub zero64 : Float
zero64 = of_bits binary64 0

abbrev pub half64 : Float
half64 = of_bits binary64 0x3fe0_0000_0000_0000

abbrev pub one64 : Float
one64 = of_bits binary64 0x3ff0_0000_0000_0000

abbrev pub two64 : Float
two64 = of_bits binary64 0x4000_0000_0000_0000

abbrev pub four64 : Float
four64 = of_bits binary64 0x4010_0000_0000_0000
