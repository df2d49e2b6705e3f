-- Numbers as bytes, the low byte first, and a signed number as 32 bits (docs/RULES.md, "The journal"). Definitions only.
use Rattle.std.specs.Prelude.{ℕ, zero, suc, ◌+◌, ◌-◌, ◌*◌, ◌/◌, ◌%◌, ◌<◌, cond, List, [], ◌∷◌, ◌++◌, ltb, ℤ, pos, negsuc, get_or}

-- ---- a number to its bytes
unfoldable pub two : ℕ → List ℕ
two n = n % 256 ∷ n / 256 % 256 ∷ []

unfoldable pub four : ℕ → List ℕ
four n = n % 256 ∷ n / 256 % 256 ∷ n / 65536 % 256 ∷ n / 16777216 % 256 ∷ []

unfoldable pub fours : List ℕ → List ℕ
fours [] = []
fours (w ∷ ws) = four w ++ fours ws

-- ---- the bytes at an offset to their number
unfoldable pub half : List ℕ → ℕ → ℕ
half s at = get_or s at 0 + 256 * get_or s (at + 1) 0

unfoldable pub word : List ℕ → ℕ → ℕ
word s at = get_or s at 0 + 256 * get_or s (at + 1) 0 + 65536 * get_or s (at + 2) 0 + 16777216 * get_or s (at + 3) 0

-- n words from an offset on
unfoldable pub words_at : List ℕ → ℕ → ℕ → List ℕ
words_at s at zero = []
words_at s at (suc n) = word s at ∷ words_at s (at + 4) n

-- ---- a signed number's 32 bits, and the signed number that 32 bits are: below 0, it and its bits are 2^32 apart
abbrev pub pattern_of : ℤ → ℕ
pattern_of (pos n) = n
pattern_of (negsuc n) = 4294967296 - suc n

unfoldable pub signed_of : ℕ → ℤ
signed_of w = cond (ltb w 2147483648) (pos w) (negsuc (4294967296 - suc w))

-- ---- what the code's bytes and words are
unfoldable pub Bytes : List ℕ → Type 0
Bytes s = (i : ℕ) → get_or s i 0 < 256

unfoldable pub AllBelow : List ℕ → Type 0
AllBelow [] = Unit
AllBelow (w ∷ ws) = (w < 4294967296) × AllBelow ws
