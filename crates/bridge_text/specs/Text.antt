-- A number as text, in 14 columns (docs/RULES.md, "Bridges as text"). Definitions only.
use Rattle.std.specs.Prelude.{ℕ, ◌+◌, ◌/◌, ◌%◌, max, Bool, cond, ◌&&◌, List, [], ◌∷◌, leb, ltb, Float}
use Rattle.std.specs.Float.Ieee.{lt}
use Rattle.float_laws.specs.Formula.{zero32}
use Rattle.bridge_text.specs.Thousandths.{thousandths_of}

-- the digit of weight p, as a byte
abbrev pub digit_of : ℕ → ℕ → ℕ
digit_of n p = 48 + n / p % 10

-- the column of weight p before the point: a digit from the first on, and the last in any case; the minus in front of it; blanks
abbrev pub mark_of : Bool → ℕ → ℕ → ℕ
mark_of negative n p = cond (leb p (max n 1000)) (digit_of n p) (cond (negative && leb (p / 10) (max n 1000)) 45 32)

unfoldable pub columns_of : Bool → ℕ → List ℕ
columns_of negative n =
    mark_of negative n 1000000000000
    ∷ mark_of negative n 100000000000
    ∷ mark_of negative n 10000000000
    ∷ mark_of negative n 1000000000
    ∷ mark_of negative n 100000000
    ∷ mark_of negative n 10000000
    ∷ mark_of negative n 1000000
    ∷ mark_of negative n 100000
    ∷ mark_of negative n 10000
    ∷ mark_of negative n 1000
    ∷ 46
    ∷ digit_of n 100
    ∷ digit_of n 10
    ∷ digit_of n 1
    ∷ []

-- `beyond`, with blanks in front
abbrev pub beyond : List ℕ
beyond = 32 ∷ 32 ∷ 32 ∷ 32 ∷ 32 ∷ 32 ∷ 32 ∷ 32 ∷ 98 ∷ 101 ∷ 121 ∷ 111 ∷ 110 ∷ 100 ∷ []

-- v with three decimals, where it has fewer than 10 digits before the point; a number that is written as zero has no sign
unfoldable pub text_of : Float → List ℕ
unfolding thousandths_of columns_of
text_of v =
    let n = thousandths_of v in
    cond (ltb n 1000000000000) (columns_of (lt v zero32 && ltb 0 n) n) beyond
