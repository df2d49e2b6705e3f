-- What the contracts of the root calls cite: the Rust's formulas, operation by operation. Definitions only.
use Rattle.std.specs.Prelude.{ℕ, Bool, cond, ◌&&◌, ◌||◌, List, [], ◌∷◌, T, Float, Option, Some, None}
use Rattle.std.specs.Float.{binary64}
use Rattle.std.specs.Float.Ieee.{neg, lt, le, eq}
use Rattle.std.specs.Float.Ieee.Scale.{finite}
use Rattle.float_laws.specs.Formula.{◌⊕◌, ◌⊖◌, ◌⊘◌, ◌⊟◌, ◌⊠◌, zero32, one32, two32, zero64, four64}
use Rattle.float_laws.specs.Narrow.{narrow_of}
use Rattle.float_laws.specs.Root.{root_of}
use Rattle.quad_roots.specs.declared.Roots.{Roots}
use Rattle.quad_roots.specs.declared.Roots.TheVariants as R

-- strictly between 0 and 1
abbrev pub inside : Float → Bool
inside r = lt zero32 r && lt r one32

abbrev pub quotient_of : Float → Float → Option Float
quotient_of n d = cond (eq d zero32 || eq n zero32 || le d n) None (cond (inside (n ⊘ d)) (Some (n ⊘ d)) None)

-- both signs flip where the numerator is below 0
unfoldable pub divided_of : Float → Float → Option Float
divided_of n d = cond (lt n zero32) (quotient_of (neg n) (neg d)) (quotient_of n d)

-- two roots: the smaller first, and equal ones once
unfoldable pub two_roots : Float → Float → Roots
two_roots r s = cond (lt s r) (R.Two s r) (cond (eq r s) (R.One r) (R.Two r s))

unfoldable pub collected : Option Float → Option Float → Roots
collected None None = R.None
collected None (Some s) = R.One s
collected (Some r) None = R.One r
collected (Some r) (Some s) = two_roots r s

-- b·b - (4·a)·c in binary64
unfoldable pub discriminant_of : Float → Float → Float → Float
discriminant_of a b c = b ⊠ b ⊟ four64 ⊠ a ⊠ c

abbrev pub root_of_discriminant : Float → Float
root_of_discriminant dr = narrow_of (root_of binary64 dr)

-- -(b - r)/2 if b < 0, else -(b + r)/2
unfoldable pub q_of : Float → Float → Float
q_of b r = cond (lt b zero32) (neg (b ⊖ r) ⊘ two32) (neg (b ⊕ r) ⊘ two32)

unfoldable pub roots_of : Float → Float → Float → Roots
roots_of a b c =
    let dr = discriminant_of a b c in
    let r = root_of_discriminant dr in
    let q = q_of b r in
    cond (eq a zero32)
    (collected (divided_of (neg c) b) None)
    (cond (lt dr zero64) R.None (cond (finite r) (collected (divided_of q a) (divided_of c q)) R.None))

-- ---- the answers' numbers and values (docs/RULES.md, "Answer numbers" and "Roots"): no root is an answer, not a refusal
abbrev pub number_of_divided : Option Float → ℕ
number_of_divided None = 0
number_of_divided (Some r) = 0

abbrev pub values_of_divided : Option Float → List Float
values_of_divided None = []
values_of_divided (Some r) = r ∷ []

abbrev pub number_of_roots : Roots → ℕ
number_of_roots R.None = 0
number_of_roots (R.One r) = 0
number_of_roots (R.Two r s) = 0

abbrev pub values_of_roots : Roots → List Float
values_of_roots R.None = []
values_of_roots (R.One r) = r ∷ []
values_of_roots (R.Two r s) = r ∷ s ∷ []

-- each value lies strictly between 0 and 1, and below the next
abbrev pub Rising : List Float → Type 0
Rising [] = Unit {0}
Rising (r ∷ []) = T (inside r)
Rising (r ∷ s ∷ l) = T (inside r) × T (lt r s) × Rising (s ∷ l)
