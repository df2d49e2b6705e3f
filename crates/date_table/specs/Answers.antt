-- Each answer's number in docs/RULES.md, "Answer numbers", and its values; a refusal has none, but for the place of a time outside.
-- Definitions only, and that no refusal has the number of what is not refused.
use Rattle.std.specs.Prelude.{ℕ, ◌<◌, List, [], ◌∷◌, Result, Ok, Err}
use Rattle.std.proofs.Common.{lit<}
use Rattle.answers.specs.Answers.{number_of, values_of}
use Rattle.date_table.specs.declared.NotDated.{NotDated}
use Rattle.date_table.specs.declared.NotDated.TheVariants.{OutsideAt, Refused}
use Rattle.date_table.specs.declared.Refusal.{Refusal}
use Rattle.date_table.specs.declared.Refusal.TheVariants.{LevelTooHigh, BufferTooShort, OddLength, EntryOutOfRange, TimeOutside, TableFalls}

abbrev pub number_of_refusal : Refusal → ℕ
number_of_refusal LevelTooHigh = 1
number_of_refusal BufferTooShort = 2
number_of_refusal OddLength = 9
number_of_refusal EntryOutOfRange = 10
number_of_refusal TimeOutside = 11
number_of_refusal TableFalls = 12

pub refusal_numbers : (why : Refusal) → 0 < number_of_refusal why
refusal_numbers LevelTooHigh = lit< tt
refusal_numbers BufferTooShort = lit< tt
refusal_numbers OddLength = lit< tt
refusal_numbers EntryOutOfRange = lit< tt
refusal_numbers TimeOutside = lit< tt
refusal_numbers TableFalls = lit< tt

abbrev pub number_of_not_dated : NotDated → ℕ
number_of_not_dated (OutsideAt i) = number_of_refusal TimeOutside
number_of_not_dated (Refused why) = number_of_refusal why

pub not_dated_numbers : (why : NotDated) → 0 < number_of_not_dated why
not_dated_numbers (OutsideAt i) = lit< tt
not_dated_numbers (Refused why) = refusal_numbers why

abbrev pub values_of_refusal : {A : Type 0} → Refusal → List A
values_of_refusal r = []

abbrev pub number_of_made : Result ℕ Refusal → ℕ
number_of_made r = number_of number_of_refusal r

-- how many entries were written
abbrev pub values_of_made : Result ℕ Refusal → List ℕ
values_of_made r = values_of r

abbrev pub number_of_dated : Result ℕ Refusal → ℕ
number_of_dated r = number_of number_of_refusal r

-- the date
abbrev pub values_of_dated : Result ℕ Refusal → List ℕ
values_of_dated r = values_of r

abbrev pub number_of_all_dated : Result (Unit {0}) NotDated → ℕ
number_of_all_dated r = number_of number_of_not_dated r

-- the place of the first time outside, which no other refusal has
abbrev pub values_of_all_dated : Result (Unit {0}) NotDated → List ℕ
values_of_all_dated (Ok dates) = []
values_of_all_dated (Err (OutsideAt i)) = i ∷ []
values_of_all_dated (Err (Refused why)) = values_of_refusal why
