-- A record's line: its kind, a space, the bytes of its payload in upper-case hexadecimal without gaps, and a newline
-- (docs/RULES.md, "The journal"). Definitions only.
use Rattle.std.specs.Prelude.{ℕ, ◌+◌, ◌/◌, ◌%◌, cond, List, [], ◌∷◌, ◌++◌, nat_lt}

-- 48 is the digit 0, and 65 the letter A
unfoldable pub digit_of : ℕ → ℕ
digit_of n = cond (nat_lt n 10) (48 + n) (55 + n)

unfoldable pub digits_of : ℕ → List ℕ
digits_of b = digit_of (b / 16) ∷ digit_of (b % 16) ∷ []

unfoldable pub hex_of : List ℕ → List ℕ
hex_of [] = []
hex_of (b ∷ bs) = digits_of b ++ hex_of bs

unfoldable pub line_of : ℕ → List ℕ → List ℕ
line_of kind payload = digit_of kind ∷ 32 ∷ (hex_of payload ++ (10 ∷ []))
