-- What a word comes to as a decimal number (docs/RULES.md, "Bridges as text"). Definitions only.
use Rattle.std.specs.Prelude.{ℕ, ◌+◌, ◌-◌, ◌*◌, ◌^◌, Bool, true, cond, ◌&&◌, ◌||◌, List, [], ◌∷◌, length, drop, pos, ◌==◌, nat_lt, slice_index, Float}
use Rattle.std.specs.Float.{binary32}
use Rattle.std.specs.Float.Ieee.{neg, of_int}
use Rattle.float_laws.specs.Formula.{◌⊘◌}
use Rattle.bridge_lines.specs.Words.{is_digit, is_point, before, from}

-- it begins with a minus
abbrev pub is_negative : List ℕ → Bool
is_negative w = slice_index w 0 == 45

-- without its minus
abbrev pub unsigned : List ℕ → List ℕ
unsigned w = cond (is_negative w) (drop 1 w) w

unfoldable pub all_digits : List ℕ → Bool
all_digits [] = true
all_digits (b ∷ l) = is_digit b && all_digits l

-- one digit or more
abbrev pub is_whole : List ℕ → Bool
is_whole w = nat_lt 0 (length w) && all_digits w

-- the bytes behind its point
abbrev pub decimals : List ℕ → List ℕ
decimals w = drop 1 (from is_point w)

-- digits, or digits, a point and digits
abbrev pub is_decimal : List ℕ → Bool
is_decimal w = is_whole w || (is_whole (before is_point w) && is_whole (decimals w))

-- the number n with the digits of l behind it
unfoldable pub size_after : ℕ → List ℕ → ℕ
size_after n [] = n
size_after n (b ∷ l) = size_after (cond (is_digit b) (10 * n + (b - 48)) n) l

-- the number that its digits make
abbrev pub size_of : List ℕ → ℕ
size_of w = size_after 0 w

-- ten to the number of its decimals
abbrev pub scale_of : List ℕ → ℕ
scale_of w = 10 ^ length (decimals w)

-- ± size / scale, rounded once
unfoldable pub value_of : List ℕ → Float
unfolding size_after from
value_of w =
    let q = of_int binary32 (pos (size_of w)) ⊘ of_int binary32 (pos (scale_of w)) in
    cond (is_negative w) (neg q) q
