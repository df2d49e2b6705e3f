-- The bytes of a line, and its words (docs/RULES.md, "Bridges as text"). Definitions only.
use Rattle.std.specs.Prelude.{ℕ, Bool, cond, ◌&&◌, ◌||◌, List, [], ◌∷◌, ◌++◌, ◌==◌, nat_le}

-- a space, a tab or a carriage return
abbrev pub is_blank : ℕ → Bool
is_blank b = b == 32 || b == 9 || b == 13

-- from `0` to `9`
abbrev pub is_digit : ℕ → Bool
is_digit b = nat_le 48 b && nat_le b 57

-- `.`
abbrev pub is_point : ℕ → Bool
is_point b = b == 46

-- `#`
abbrev pub is_hash : ℕ → Bool
is_hash b = b == 35

-- the bytes before the first one that p holds of
unfoldable pub before : (ℕ → Bool) → List ℕ → List ℕ
before p [] = []
before p (b ∷ l) = cond (p b) [] (b ∷ before p l)

-- that one and the bytes behind it
unfoldable pub from : (ℕ → Bool) → List ℕ → List ℕ
from p [] = []
from p (b ∷ l) = cond (p b) (b ∷ l) (from p l)

-- the word w and then the words ws; no word is empty
unfoldable pub ahead : List ℕ → List (List ℕ) → List (List ℕ)
ahead [] ws = ws
ahead (b ∷ w) ws = (b ∷ w) ∷ ws

-- the words of l, where w is a word that has begun before it
unfoldable pub words_after : List ℕ → List ℕ → List (List ℕ)
unfolding ahead
words_after w [] = ahead w []
words_after w (b ∷ l) = cond (is_blank b) (ahead w (words_after [] l)) (words_after (w ++ b ∷ []) l)

-- the runs of bytes between blanks
abbrev pub words_of : List ℕ → List (List ℕ)
words_of l = words_after [] l
