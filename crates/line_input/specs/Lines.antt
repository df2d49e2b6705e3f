-- The lines of an input. Definitions only.
use Rattle.std.specs.Prelude.{ℕ, List, take}

-- of the bytes of a line those that are kept, one more than a line may have
abbrev pub kept_of : List ℕ → List ℕ
kept_of line = take 257 line
