-- A transform as its six numbers, in the order of `from_row` (docs/RULES.md, "Transforms"). Definitions only.
use Rattle.std.specs.Prelude.{List, [], ◌∷◌, Float}
use Rattle.float_laws.specs.Formula.{zero32, one32}
use Rattle.transform.specs.declared.Transform.{Transform}

-- column by column: ky stands before kx
abbrev pub row_of : Float → Float → Float → Float → Float → Float → Transform
row_of sx ky kx sy tx ty = record { sx = sx; kx = kx; ky = ky; sy = sy; tx = tx; ty = ty }

-- the numbers of a transform in that order
abbrev pub row_numbers : Transform → List Float
row_numbers t = t.sx ∷ t.ky ∷ t.kx ∷ t.sy ∷ t.tx ∷ t.ty ∷ []

abbrev pub identity_row : Transform
identity_row = row_of one32 zero32 zero32 one32 zero32 zero32

unfoldable pub translate_of : Float → Float → Transform
translate_of tx ty = row_of one32 zero32 zero32 one32 tx ty

unfoldable pub scale_of : Float → Float → Transform
scale_of sx sy = row_of sx zero32 zero32 sy zero32 zero32

abbrev pub skew_of : Float → Float → Transform
skew_of kx ky = row_of one32 ky kx one32 zero32 zero32
