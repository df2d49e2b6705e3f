-- Each answer's number in docs/RULES.md, "Answer numbers", and its values. A refusal has none but the offset of its record.
-- Definitions only.
use Rattle.std.specs.Prelude.{ℕ, ◌<◌, List, [], ◌∷◌, Result, Ok, Err}
use Rattle.std.proofs.Common.{lit<}
use Rattle.answers.specs.Answers.{number_of, values_of}
use Rattle.records.specs.declared.Refusal.{Refusal}
use Rattle.records.specs.declared.Refusal.TheVariants.{BufferTooShort, BadLength, UnknownKind}
use Rattle.records.specs.declared.Refused.{Refused}
use Rattle.records.specs.declared.Found.{Found}
use Rattle.records.specs.declared.Found.TheVariants as F
use Rattle.records.specs.Record.{kind_of, words_over}

abbrev pub number_of_refusal : Refusal → ℕ
number_of_refusal BufferTooShort = 2
number_of_refusal BadLength = 17
number_of_refusal UnknownKind = 18

pub refusal_numbers : (why : Refusal) → 0 < number_of_refusal why
refusal_numbers BufferTooShort = lit< tt
refusal_numbers BadLength = lit< tt
refusal_numbers UnknownKind = lit< tt

abbrev pub number_of_refused : Refused → ℕ
number_of_refused refused = number_of_refusal refused.why

pub refused_numbers : (refused : Refused) → 0 < number_of_refused refused
refused_numbers refused = refusal_numbers refused.why

abbrev pub number_of_found : Result Found Refused → ℕ
number_of_found found = number_of number_of_refused found

-- what stands there, which a refusal does not say: 0 a record, 1 the end, 2 a record that is cut off
abbrev pub what_of_found : Result Found Refused → List ℕ
what_of_found (Ok (F.Whole r next)) = 0 ∷ []
what_of_found (Ok F.End) = 1 ∷ []
what_of_found (Ok F.Short) = 2 ∷ []
what_of_found (Err refused) = []

-- the kind of the record, if there is one
abbrev pub kind_of_found : Result Found Refused → List ℕ
kind_of_found (Ok (F.Whole r next)) = kind_of r ∷ []
kind_of_found (Ok F.End) = []
kind_of_found (Ok F.Short) = []
kind_of_found (Err refused) = []

-- seven words, with those of the record over the first of them, if there is one
abbrev pub words_of_found : Result Found Refused → List ℕ → List ℕ
words_of_found (Ok (F.Whole r next)) ws = words_over r ws
words_of_found (Ok F.End) ws = ws
words_of_found (Ok F.Short) ws = ws
words_of_found (Err refused) ws = ws

-- where to go on, read at an offset: the next record's; the offset itself where there is no whole record; or that of the refused one
abbrev pub next_of_found : ℕ → Result Found Refused → ℕ
next_of_found at (Ok (F.Whole r next)) = next
next_of_found at (Ok F.End) = at
next_of_found at (Ok F.Short) = at
next_of_found at (Err refused) = refused.at

abbrev pub number_of_written : Result ℕ Refusal → ℕ
number_of_written written = number_of number_of_refusal written

-- the offset behind the record
abbrev pub values_of_written : Result ℕ Refusal → List ℕ
values_of_written written = values_of written

abbrev pub number_of_ended : Result ℕ Refused → ℕ
number_of_ended ended = number_of number_of_refused ended

-- the offset behind the last whole record, or that of the refused one
abbrev pub place_of_ended : Result ℕ Refused → ℕ
place_of_ended (Ok end) = end
place_of_ended (Err refused) = refused.at
