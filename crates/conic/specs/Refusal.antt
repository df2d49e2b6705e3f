-- Each answer's number in docs/RULES.md, "Answer numbers", and its values; a refusal has none. Definitions only, and that no
-- refusal has the number of what is not refused.
use Rattle.std.specs.Prelude.{ℕ, ◌<◌, List, [], Result}
use Rattle.std.proofs.Common.{lit<}
use Rattle.answers.specs.Answers.{number_of, values_of}
use Rattle.conic.specs.declared.Conic.{Conic}
use Rattle.conic.specs.declared.Refusal.{Refusal}
use Rattle.conic.specs.declared.Refusal.TheVariants.{LevelTooHigh, BufferTooShort, PointNotFinite, BadTolerance}

abbrev pub number_of_refusal : Refusal → ℕ
number_of_refusal LevelTooHigh = 1
number_of_refusal BufferTooShort = 2
number_of_refusal PointNotFinite = 3
number_of_refusal BadTolerance = 4

pub refusal_numbers : (why : Refusal) → 0 < number_of_refusal why
refusal_numbers LevelTooHigh = lit< tt
refusal_numbers BufferTooShort = lit< tt
refusal_numbers PointNotFinite = lit< tt
refusal_numbers BadTolerance = lit< tt

abbrev pub values_of_refusal : {A : Type 0} → Refusal → List A
values_of_refusal r = []

-- the conic that was made
abbrev pub number_of_from_points : Result Conic Refusal → ℕ
number_of_from_points r = number_of number_of_refusal r

abbrev pub values_of_from_points : Result Conic Refusal → List Conic
values_of_from_points r = values_of r

-- the level that was chosen
abbrev pub number_of_level : Result ℕ Refusal → ℕ
number_of_level r = number_of number_of_refusal r

abbrev pub values_of_level : Result ℕ Refusal → List ℕ
values_of_level r = values_of r
