-- What a line comes to, by its words (docs/RULES.md, "Bridges as text"). Definitions only.
use Rattle.std.specs.Prelude.{ℕ, ◌+◌, Bool, cond, ◌&&◌, List, [], ◌∷◌, length, ◌==◌, nat_le, nat_lt, slice_index_or, Float, Option, Some, None, Result, Ok, Err}
use Rattle.point.specs.Point.{point_from}
use Rattle.conic.specs.declared.Rule.TheVariants.{BothAxes}
use Rattle.conic.specs.Chop.{conic_from}
use Rattle.bridge_lines.specs.declared.Bad.{Bad}
use Rattle.bridge_lines.specs.declared.Bridge.{Bridge}
use Rattle.bridge_lines.specs.declared.Fault.{Fault}
use Rattle.bridge_lines.specs.declared.Fault.TheVariants.{NoNumber, OutOfRange, TooFew, TooMany, TooLong}
use Rattle.bridge_lines.specs.Decimal.{unsigned, is_whole, is_decimal, decimals, size_of, value_of}
use Rattle.bridge_lines.specs.Words.{is_hash, before, words_of}

-- what a word has to be at its place: a coordinate from 1 to 6, the weight at 7, the level at 8
abbrev pub has_form : ℕ → List ℕ → Bool
has_form place w =
    cond (nat_lt place 7) (is_whole (unsigned w)) (cond (nat_lt place 8) (is_decimal (unsigned w)) (is_whole w))

-- the largest size there: 2 ^ 24, 7 digits, 9 digits
abbrev pub limit_of : ℕ → ℕ
limit_of place = cond (nat_lt place 7) 16777216 (cond (nat_lt place 8) 9999999 999999999)

-- no larger, and at most 6 decimals
abbrev pub in_range : ℕ → List ℕ → Bool
in_range place w = nat_le (size_of w) (limit_of place) && nat_le (length (decimals w)) 6

-- what is wrong, and the place of the word
abbrev pub bad : {A : Type 0} → ℕ → Fault → Result A Bad
bad place why = Err (record { place = place; why = why })

-- the words from a place on: the first thing that is wrong, or else `good`; a line without words is blank, and no bridge
unfoldable pub judged : ℕ → List (List ℕ) → Bridge → Result (Option Bridge) Bad
judged place [] good = cond (nat_lt 8 place) (Ok (Some good)) (cond (place == 1) (Ok None) (bad place TooFew))
judged place (w ∷ ws) good =
    cond (nat_lt 8 place) (bad place TooMany)
    (cond (has_form place w)
    (cond (in_range place w) (judged (place + 1) ws good) (bad place OutOfRange))
    (bad place NoNumber))

-- x0 y0 x1 y1 x2 y2 weight level; a bridge is read by x, so that its rule is that of both axes
abbrev pub bridge_of : List (List ℕ) → Bridge
bridge_of ws =
    let v : ℕ → Float = λ (i : ℕ). value_of (slice_index_or ws i []) in
    record {
      conic = conic_from (point_from (v 0) (v 1)) (point_from (v 2) (v 3)) (point_from (v 4) (v 5)) (v 6) BothAxes;
      level = size_of (slice_index_or ws 7 []);
    }

unfoldable pub line_of : List (List ℕ) → Result (Option Bridge) Bad
unfolding judged
line_of ws = judged 1 ws (bridge_of ws)

-- a line is its words up to the first `#`
unfoldable pub read_of : List ℕ → Result (Option Bridge) Bad
unfolding line_of
read_of line = cond (nat_lt 256 (length line)) (bad 1 TooLong) (line_of (words_of (before is_hash line)))
