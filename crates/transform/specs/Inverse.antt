-- What `invert` answers. Definitions only.
use Rattle.std.specs.Prelude.{Bool, not, cond, ◌&&◌, ◌||◌, List, [], ◌∷◌, ℕ, ◌<◌, Float, Result, Ok, Err}
use Rattle.std.proofs.Common.{lit<}
use Rattle.std.specs.Float.{binary32}
use Rattle.std.specs.Float.Ieee.{of_bits, neg}
use Rattle.answers.specs.Answers.{number_of}
use Rattle.float_laws.specs.Formula.{◌⊗◌, ◌⊘◌, ◌⊟◌, ◌⊠◌, ◌⧄◌, zero32, one32, one64}
use Rattle.float_laws.specs.Narrow.{narrow_of, kept, some_lost}
use Rattle.transform.specs.declared.Computed.{Computed}
use Rattle.transform.specs.declared.Transform.{Transform}
use Rattle.transform.specs.declared.invert.InvDeterminant.{InvDeterminant}
use Rattle.transform.specs.declared.invert.Refusal.{Refusal}
use Rattle.transform.specs.declared.invert.Refusal.TheVariants.{NearlySingular, NotFinite}
use Rattle.transform.specs.Row.{row_of, row_numbers, translate_of}
use Rattle.transform.specs.Kinds.{is_identity, has_scale, has_skew, is_finite, nearly_zero}
use Rattle.transform.specs.Told.{computed_of}

-- its number in docs/RULES.md, "Answer numbers", its values, the inverse in the order of `from_row`, and its flag: a refusal has none
abbrev pub number_of_refusal : Refusal → ℕ
number_of_refusal NearlySingular = 6
number_of_refusal NotFinite = 7

pub refusal_numbers : (why : Refusal) → 0 < number_of_refusal why
refusal_numbers NearlySingular = lit< tt
refusal_numbers NotFinite = lit< tt

abbrev pub number_of_inversion : Result Computed Refusal → ℕ
number_of_inversion = number_of number_of_refusal

abbrev pub values_of_inversion : Result Computed Refusal → List Float
values_of_inversion (Ok c) = row_numbers c.transform
values_of_inversion (Err why) = []

abbrev pub flags_of_inversion : Result Computed Refusal → List Bool
flags_of_inversion (Ok c) = c.rounded ∷ []
flags_of_inversion (Err why) = []

-- ---- without skew
unfoldable pub unskewed_inverse : Transform → Transform
unskewed_inverse t =
    let inv-x = one32 ⊘ t.sx in
    let inv-y = one32 ⊘ t.sy in
    cond (has_scale t)
    (row_of inv-x zero32 zero32 inv-y (neg t.tx ⊗ inv-x) (neg t.ty ⊗ inv-y))
    (translate_of (neg t.tx) (neg t.ty))

-- ---- with skew, in f64
abbrev pub dcross_of : Float → Float → Float → Float → Float
dcross_of a b c d = a ⊠ b ⊟ c ⊠ d

-- narrowed once
abbrev pub dscale_of : Float → Float → Float
dscale_of x scale = narrow_of (x ⊠ scale)

-- 2^-36, the cube of the crate's 2^-12
abbrev pub nearly_nothing : Float
nearly_nothing = of_bits binary32 0x2d80_0000

abbrev pub determinant : Transform → Float
determinant t = dcross_of t.sx t.sy t.kx t.ky

-- the determinant is nearly zero, once it is narrowed
abbrev pub nearly_singular : Transform → Bool
nearly_singular t = nearly_zero (narrow_of (determinant t)) nearly_nothing

abbrev pub over_determinant : Transform → Float
over_determinant t = one64 ⧄ determinant t

unfoldable pub skewed_inverse : Transform → Float → Transform
skewed_inverse t inv-det =
    row_of
    (dscale_of t.sy inv-det)
    (dscale_of (neg t.ky) inv-det)
    (dscale_of (neg t.kx) inv-det)
    (dscale_of t.sx inv-det)
    (dscale_of (dcross_of t.kx t.ty t.sy t.tx) inv-det)
    (dscale_of (dcross_of t.ky t.tx t.sx t.ty) inv-det)

-- ---- which numbers are narrowed on the way: without skew none; with it the determinant, for its test, and those of `skewed_inverse`,
-- in its order
abbrev pub skewed_scaled : Transform → Float → List Float
skewed_scaled t inv-det =
    t.sy ⊠ inv-det
    ∷ neg t.ky ⊠ inv-det
    ∷ neg t.kx ⊠ inv-det
    ∷ t.sx ⊠ inv-det
    ∷ dcross_of t.kx t.ty t.sy t.tx ⊠ inv-det
    ∷ dcross_of t.ky t.tx t.sx t.ty ⊠ inv-det
    ∷ []

unfoldable pub invert_narrows : Transform → List Float
invert_narrows t = cond (has_skew t) (determinant t ∷ skewed_scaled t (over_determinant t)) []

-- ---- the answer
-- the computed inverse, in whichever branch: an identity is its own
unfoldable pub inverse_of : Transform → Transform
inverse_of t = cond (is_identity t) t (cond (has_skew t) (skewed_inverse t (over_determinant t)) (unskewed_inverse t))

-- 7 exactly where an entry of the computed inverse is not finite
unfoldable pub checked_of : Transform → Bool → Result Computed Refusal
checked_of inverse rounded = cond (is_finite inverse) (Ok (computed_of inverse rounded)) (Err NotFinite)

-- 6 before 7, and for what skews alone; the flag is set exactly where one of the narrowings is not exact
unfoldable pub invert_of : Transform → Result Computed Refusal
invert_of t = cond (has_skew t && nearly_singular t) (Err NearlySingular) (checked_of (inverse_of t) (some_lost (invert_narrows t)))

-- ---- the steps of a skewed inverse, flagged step by step
unfoldable pub inv_determinant : Transform → Result InvDeterminant Refusal
inv_determinant t =
    cond (nearly_singular t) (Err NearlySingular) (Ok (record { value = over_determinant t; rounded = not (kept (determinant t)) }))

abbrev pub scaled_told : Transform → Float → Computed
scaled_told t inv-det = computed_of (skewed_inverse t inv-det) (some_lost (skewed_scaled t inv-det))

abbrev pub skewed_inversion : Transform → Result InvDeterminant Refusal → Result Computed Refusal
skewed_inversion t (Err why) = Err why
skewed_inversion t (Ok inv) = checked_of (skewed_inverse t inv.value) (inv.rounded || some_lost (skewed_scaled t inv.value))
