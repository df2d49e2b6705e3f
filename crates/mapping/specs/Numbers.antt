-- A buffer of numbers, x, y, x, y, mapped by a transform. Definitions only.
use Rattle.std.specs.Prelude.{cond, List, map, ℕ, ◌<◌, ◌%◌, eqb, length, Float, Result, Ok, Err}
use Rattle.std.proofs.Common.{lit<}
use Rattle.answers.specs.Answers.{number_of}
use Rattle.point.specs.Numbers.{flat, points_of}
use Rattle.transform.specs.declared.Transform.{Transform}
use Rattle.transform.specs.Mapped.{map_point}
use Rattle.mapping.specs.declared.Refusal.{Refusal}
use Rattle.mapping.specs.declared.Refusal.TheVariants.{OddLength}

-- its number in docs/RULES.md, "Answer numbers"; its values stand in the buffer
abbrev pub number_of_refusal : Refusal → ℕ
number_of_refusal OddLength = 9

pub refusal_numbers : (why : Refusal) → 0 < number_of_refusal why
refusal_numbers OddLength = lit< tt

abbrev pub number_of_mapping : Result (Unit {0}) Refusal → ℕ
number_of_mapping = number_of number_of_refusal

-- what goes with 9, where the numbers are no whole points; and else what is well
abbrev pub refuse_odd : {A : Type 0} → List Float → A → A → A
refuse_odd l nine well = cond (eqb (length l % 2) 0) well nine

abbrev pub mapping_answer : List Float → Result (Unit {0}) Refusal
mapping_answer l = refuse_odd l (Err OddLength) (Ok tt)

abbrev pub mapping_number : List Float → ℕ
mapping_number l = refuse_odd l (number_of_refusal OddLength) 0

-- the buffer at exit
abbrev pub mapped_numbers : Transform → List Float → List Float
mapped_numbers t l = refuse_odd l l (flat (map (map_point t) (points_of l)))
