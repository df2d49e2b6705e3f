-- The largest whole number not above a float (docs/RULES.md, "Dates"). A finite float is the fraction `num` over `den`, up to its
-- sign. Definitions only.
use Rattle.std.specs.Prelude.{ℕ, ◌+◌, ◌*◌, ◌/◌, ◌≤◌, Bool, false, cond, ◌&&◌, pos, Float}
use Rattle.std.specs.Float.{fin}
use Rattle.std.specs.Float.Ieee.{le}
use Rattle.std.specs.Float.Ieee.Positive.{num, den}

-- the largest number that a table may hold
abbrev pub max_entry : ℕ
max_entry = 16777216

-- finite, not below 0 and not above the largest; -0 is not below 0
unfoldable pub in_range : Float → Bool
in_range x = le (fin false 0 (pos 0)) x && le x (fin false 1 (pos 24))

-- for x not below 0: among the whole numbers that are not above x, n is the largest
pub record LargestNotAbove (x : Float) (n : ℕ) : Type 0 where
  pub not_above : n * den x ≤ num x
  pub largest : (k : ℕ) → k * den x ≤ num x → k ≤ n

-- x rounded down; of one that is not in range, a number that no table may hold
unfoldable pub whole_of : Float → ℕ
whole_of x = cond (in_range x) (num x / den x) (max_entry + 1)
