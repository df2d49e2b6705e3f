-- What is wrong with a line, in words, as `bridge` prints it; of a line that is too long `dates` says more. Definitions only.
use Rattle.std.specs.Prelude.{ℕ, cond, List, ◌++◌, codes, decimal, nat_lt}
use Rattle.bridge_lines.specs.declared.Bad.{Bad}
use Rattle.bridge_lines.specs.declared.Fault.{Fault}
use Rattle.bridge_lines.specs.declared.Fault.TheVariants.{NoNumber, OutOfRange, TooFew, TooMany, TooLong}

-- what the word at a place of a bridge is not: a coordinate from 1 to 6, the weight at 7, the level at 8
abbrev pub not_in_bridge : ℕ → List ℕ
not_in_bridge place =
    cond (nat_lt place 7) (codes "no whole number from -16777216 to 16777216")
    (cond (nat_lt place 8) (codes "no number such as 2 or -0.75, with at most 7 digits, at most 6 of them behind the point")
    (codes "no whole number from 0 to 999999999"))

-- and that of a stroke
abbrev pub not_in_stroke : List ℕ
not_in_stroke = codes "no whole number from 0 to 4294967295"

-- by the place of the word, what it is not, and the place of the last one
unfoldable pub told_of : Fault → ℕ → List ℕ → ℕ → List ℕ
told_of NoNumber place is-not last = codes "number " ++ decimal place ++ codes " is " ++ is-not
told_of OutOfRange place is-not last = codes "number " ++ decimal place ++ codes " is out of range: it is " ++ is-not
told_of TooFew place is-not last = codes "too few numbers: number " ++ decimal place ++ codes " is missing"
told_of TooMany place is-not last = codes "too many numbers: number " ++ decimal last ++ codes " is the last"
told_of TooLong place is-not last = codes "too long: a line has at most 256 bytes"

abbrev pub words_of_bridge : Bad → List ℕ
words_of_bridge bad = told_of bad.why bad.place (not_in_bridge bad.place) 8

abbrev pub words_of_stroke : Bad → List ℕ
words_of_stroke bad = told_of bad.why bad.place not_in_stroke 1
