-- Records, and each as bytes (docs/RULES.md, "The journal"). Definitions only.
use Rattle.std.specs.Prelude.{ℕ, ◌+◌, ◌*◌, cond, List, [], ◌∷◌, ◌++◌, eqb, length, get_or}
use Rattle.std.proofs.lemmas.List.Edits.{sets}
use Rattle.std.specs.Int.{w32}
use Rattle.std.proofs.Common.{SFits}
use Rattle.records.specs.declared.ConicBits.{ConicBits}
use Rattle.records.specs.declared.TransformBits.{TransformBits}
use Rattle.records.specs.declared.Record.{Record}
use Rattle.records.specs.declared.Record.TheVariants.{Conic, Transform, Correction}
use Rattle.records.specs.Numbers.{two, four, fours, pattern_of, signed_of, AllBelow}

-- ---- kinds and their words
abbrev pub kind_of : Record → ℕ
kind_of (Conic c) = 1
kind_of (Transform t) = 2
kind_of (Correction z) = 3

unfoldable pub words_of : Record → List ℕ
words_of (Conic c) = c.x0 ∷ c.y0 ∷ c.x1 ∷ c.y1 ∷ c.x2 ∷ c.y2 ∷ c.weight ∷ []
words_of (Transform t) = t.sx ∷ t.ky ∷ t.kx ∷ t.sy ∷ t.tx ∷ t.ty ∷ []
words_of (Correction z) = pattern_of z ∷ []

-- how many words a kind has; none where it is unknown
unfoldable pub count_of : ℕ → ℕ
count_of k = cond (eqb k 1) 7 (cond (eqb k 2) 6 (cond (eqb k 3) 1 0))

abbrev pub conic_of : List ℕ → ConicBits
conic_of w =
    record { x0 = get_or w 0 0; y0 = get_or w 1 0; x1 = get_or w 2 0; y1 = get_or w 3 0; x2 = get_or w 4 0; y2 = get_or w 5 0; weight = get_or w 6 0 }

abbrev pub transform_of : List ℕ → TransformBits
transform_of w =
    record { sx = get_or w 0 0; ky = get_or w 1 0; kx = get_or w 2 0; sy = get_or w 3 0; tx = get_or w 4 0; ty = get_or w 5 0 }

-- the record of a known kind
unfoldable pub record_of : ℕ → List ℕ → Record
record_of k w = cond (eqb k 1) (Conic (conic_of w)) (cond (eqb k 2) (Transform (transform_of w)) (Correction (signed_of (get_or w 0 0))))

-- ---- a record as bytes
-- the length of what follows the length
unfoldable pub length_of : ℕ → ℕ
length_of count = 2 + 4 * count

unfoldable pub bytes_for : ℕ → List ℕ → List ℕ
bytes_for k ws = four (length_of (length ws)) ++ (two k ++ fours ws)

unfoldable pub bytes_of : Record → List ℕ
bytes_of r = bytes_for (kind_of r) (words_of r)

unfoldable pub journal_of : List Record → List ℕ
journal_of [] = []
journal_of (r ∷ rs) = bytes_of r ++ journal_of rs

-- ---- what every record of the code is: each of its numbers has 32 bits
unfoldable pub Fits : Record → Type 0
Fits (Conic c) = AllBelow (words_of (Conic c))
Fits (Transform t) = AllBelow (words_of (Transform t))
Fits (Correction z) = SFits w32 z

unfoldable pub AllFit : List Record → Type 0
AllFit [] = Unit
AllFit (r ∷ rs) = Fits r × AllFit rs

-- ---- the words of a record over the first of seven
unfoldable pub words_over : Record → List ℕ → List ℕ
words_over r ws = sets ws 0 (words_of r)
