-- What a line of a pad's file comes to, by its first word (docs/RULES.md, "Pads as text"). Definitions only.
use Rattle.std.specs.Prelude.{ℕ, Bool, true, false, cond, ◌&&◌, List, [], ◌∷◌, length, ◌==◌, nat_le, nat_lt, slice_index_or, Option, Some, None, Result, Ok, Err}
use Rattle.bridge_lines.specs.declared.Fault.TheVariants.{NoNumber, OutOfRange, TooFew, TooMany, TooLong}
use Rattle.bridge_lines.specs.declared.Bad.{Bad}
use Rattle.bridge_lines.specs.declared.Bridge as B
use Rattle.bridge_lines.specs.declared.PadLine.{PadLine}
use Rattle.bridge_lines.specs.declared.PadLine.TheVariants.{Blank, Bridge, Stroke, MaybeBridge, OtherWord}
use Rattle.bridge_lines.specs.Decimal.{is_whole, size_of}
use Rattle.bridge_lines.specs.Reading.{bad, line_of}
use Rattle.bridge_lines.specs.Words.{is_hash, before, words_of}

-- the bytes of `bridge`, and those of `stroke`
abbrev pub bridge_word : List ℕ
bridge_word = 98 ∷ 114 ∷ 105 ∷ 100 ∷ 103 ∷ 101 ∷ []

abbrev pub stroke_word : List ℕ
stroke_word = 115 ∷ 116 ∷ 114 ∷ 111 ∷ 107 ∷ 101 ∷ []

-- the same bytes in the same order, and no more
unfoldable pub same : List ℕ → List ℕ → Bool
same [] [] = true
same [] (c ∷ m) = false
same (b ∷ l) [] = false
same (b ∷ l) (c ∷ m) = b == c && same l m

-- a bridge's numbers, by what they come to as a line of their own; there has to be one
unfoldable pub bridge_or : Result (Option B.Bridge) Bad → Result B.Bridge Bad
bridge_or (Ok (Some b)) = Ok b
bridge_or (Ok None) = bad 1 TooFew
bridge_or (Err why) = Err why

-- a stroke's words: one number, whole, without a sign and below 2 ^ 32
unfoldable pub stroke_of : List (List ℕ) → Result ℕ Bad
stroke_of [] = bad 1 TooFew
stroke_of (w ∷ ws) =
    cond (is_whole w)
    (cond (nat_le (size_of w) 4294967295)
    (cond (length ws == 0) (Ok (size_of w)) (bad 2 TooMany))
    (bad 1 OutOfRange))
    (bad 1 NoNumber)

-- with another first word, eight words or more, as many as a bridge has without it, may have been a bridge
unfoldable pub other_of : List (List ℕ) → PadLine
other_of ws = cond (nat_lt 7 (length ws)) MaybeBridge OtherWord

-- the first word says what the others are
unfoldable pub pad_line_of : List (List ℕ) → PadLine
unfolding same bridge_or stroke_of other_of
pad_line_of [] = Blank
pad_line_of (w ∷ ws) = cond (same w bridge_word) (Bridge (bridge_or (line_of ws))) (cond (same w stroke_word) (Stroke (stroke_of ws)) (other_of (w ∷ ws)))

-- a line that is too long is a bad stroke by its first word, and else a bad bridge, since it may have been one
unfoldable pub too_long_of : List (List ℕ) → PadLine
unfolding same
too_long_of ws = cond (same (slice_index_or ws 0 []) stroke_word) (Stroke (bad 1 TooLong)) (Bridge (bad 1 TooLong))

-- a line is its words up to the first `#`; what follows does not count for its length
unfoldable pub pad_of : List ℕ → PadLine
unfolding pad_line_of too_long_of
pad_of line =
    let text = before is_hash line in
    cond (nat_lt 256 (length text)) (too_long_of (words_of text)) (pad_line_of (words_of text))
