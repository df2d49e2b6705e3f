-- What `concat` answers: what b does, and then a; and whether a narrowing on the way was not exact (docs/RULES.md, "Transforms").
-- Definitions only.
use Rattle.std.specs.Prelude.{cond, not, ◌&&◌, List, [], ◌∷◌, Float}
use Rattle.float_laws.specs.Formula.{◌⊕◌, ◌⊗◌, ◌⊞◌, ◌⊠◌, zero32}
use Rattle.float_laws.specs.Narrow.{narrow_of, some_lost}
use Rattle.transform.specs.declared.Computed.{Computed}
use Rattle.transform.specs.declared.Transform.{Transform}
use Rattle.transform.specs.Row.{row_of}
use Rattle.transform.specs.Kinds.{is_identity, has_skew}
use Rattle.transform.specs.Told.{computed_of}

-- a * b + c * d in f64, and narrowed once
abbrev pub mul_add : Float → Float → Float → Float → Float
mul_add a b c d = a ⊠ b ⊞ c ⊠ d

abbrev pub mul_add_mul : Float → Float → Float → Float → Float
mul_add_mul a b c d = narrow_of (mul_add a b c d)

unfoldable pub skewed_product : Transform → Transform → Transform
skewed_product a b =
    row_of
    (mul_add_mul a.sx b.sx a.kx b.ky)
    (mul_add_mul a.ky b.sx a.sy b.ky)
    (mul_add_mul a.sx b.kx a.kx b.sy)
    (mul_add_mul a.ky b.kx a.sy b.sy)
    (mul_add_mul a.sx b.tx a.kx b.ty ⊕ a.tx)
    (mul_add_mul a.ky b.tx a.sy b.ty ⊕ a.ty)

unfoldable pub unskewed_product : Transform → Transform → Transform
unskewed_product a b =
    row_of (a.sx ⊗ b.sx) zero32 zero32 (a.sy ⊗ b.sy) (a.sx ⊗ b.tx ⊕ a.tx) (a.sy ⊗ b.ty ⊕ a.ty)

unfoldable pub product_of : Transform → Transform → Transform
product_of a b = cond (not (has_skew a) && not (has_skew b)) (unskewed_product a b) (skewed_product a b)

unfoldable pub concat_of : Transform → Transform → Transform
concat_of a b = cond (is_identity a) b (cond (is_identity b) a (product_of a b))

-- ---- which numbers are narrowed on the way
-- those of `skewed_product`, in its order
abbrev pub skewed_sums : Transform → Transform → List Float
skewed_sums a b =
    mul_add a.sx b.sx a.kx b.ky
    ∷ mul_add a.ky b.sx a.sy b.ky
    ∷ mul_add a.sx b.kx a.kx b.sy
    ∷ mul_add a.ky b.kx a.sy b.sy
    ∷ mul_add a.sx b.tx a.kx b.ty
    ∷ mul_add a.ky b.tx a.sy b.ty
    ∷ []

-- none where neither skews
unfoldable pub product_narrows : Transform → Transform → List Float
product_narrows a b = cond (not (has_skew a) && not (has_skew b)) [] (skewed_sums a b)

-- none where one is the identity
unfoldable pub concat_narrows : Transform → Transform → List Float
concat_narrows a b = cond (is_identity a) [] (cond (is_identity b) [] (product_narrows a b))

-- ---- the product, flagged exactly where one of these narrowings is not exact
abbrev pub skewed_told : Transform → Transform → Computed
skewed_told a b = computed_of (skewed_product a b) (some_lost (skewed_sums a b))

abbrev pub product_told : Transform → Transform → Computed
product_told a b = computed_of (product_of a b) (some_lost (product_narrows a b))

abbrev pub concat_told : Transform → Transform → Computed
concat_told a b = computed_of (concat_of a b) (some_lost (concat_narrows a b))
