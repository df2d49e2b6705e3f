-- The answers' numbers in the table of docs/RULES.md, "Answer numbers", their values, and which refusal comes first. Definitions only.
use Rattle.std.specs.Prelude.{ℕ, ◌<◌, cond, List, [], ◌∷◌, ltb, length, Float, Result, Ok, Err}
use Rattle.std.proofs.Common.{lit<}
use Rattle.std.proofs.lemmas.List.Edits.{sets}
use Rattle.answers.specs.Answers.{number_of, values_of}
use Rattle.point.specs.declared.Point.{Point}
use Rattle.point.specs.Numbers.{flat}
use Rattle.quads.specs.declared.Refusal.{Refusal}
use Rattle.quads.specs.declared.Refusal.TheVariants as R
use Rattle.quads.specs.declared.NoCurvature.{NoCurvature}
use Rattle.quads.specs.declared.NoCurvature.TheVariants as K
use Rattle.quads.specs.Steps.{outside_unit, outside_open_unit}

abbrev pub number_of_refusal : Refusal → ℕ
number_of_refusal R.OutOfRange = 8
number_of_refusal R.BufferTooShort = 2

pub refusal_numbers : (why : Refusal) → 0 < number_of_refusal why
refusal_numbers R.OutOfRange = lit< tt
refusal_numbers R.BufferTooShort = lit< tt

abbrev pub number_of_no_curvature : NoCurvature → ℕ
number_of_no_curvature K.Undefined = 5
number_of_no_curvature K.BufferTooShort = 2

pub no_curvature_numbers : (why : NoCurvature) → 0 < number_of_no_curvature why
no_curvature_numbers K.Undefined = lit< tt
no_curvature_numbers K.BufferTooShort = lit< tt

abbrev pub number_of_point : Result Point Refusal → ℕ
number_of_point = number_of number_of_refusal

abbrev pub values_of_point : Result Point Refusal → List Float
values_of_point (Ok p) = flat (p ∷ [])
values_of_point (Err why) = []

-- its values are in the lent buffer
abbrev pub number_of_chop : Result (Unit {0}) Refusal → ℕ
number_of_chop = number_of number_of_refusal

abbrev pub number_of_curvature : Result Float NoCurvature → ℕ
number_of_curvature = number_of number_of_no_curvature

abbrev pub values_of_curvature : Result Float NoCurvature → List Float
values_of_curvature = values_of

-- what goes with 2, where fewer than `need` numbers are lent; else `rest`
abbrev pub short_pick : {A : Type 0} → ℕ → List Float → A → A → A
short_pick need lent two rest = cond (ltb (length lent) need) two rest

-- an evaluation reads `need` numbers: what goes with 8, where t is outside its range; else with 2; else with 0
abbrev pub eval_pick : {A : Type 0} → ℕ → Float → List Float → A → A → A → A
eval_pick need t src eight two none = cond (outside_unit t) eight (short_pick need src two none)

abbrev pub eval_number : ℕ → Float → List Float → ℕ
eval_number need t src = eval_pick need t src (number_of_refusal R.OutOfRange) (number_of_refusal R.BufferTooShort) 0

abbrev pub eval_answer : ℕ → Float → List Float → Point → Result Point Refusal
eval_answer need t src p = eval_pick need t src (Err R.OutOfRange) (Err R.BufferTooShort) (Ok p)

abbrev pub eval_values : ℕ → Float → List Float → Point → List Float
eval_values need t src p = eval_pick need t src [] [] (flat (p ∷ []))

-- a chop reads `need` numbers and writes `room`; the same order
abbrev pub chop_pick : {A : Type 0} → ℕ → ℕ → Float → List Float → List Float → A → A → A → A
chop_pick need room t src dst eight two none = cond (outside_open_unit t) eight (short_pick need src two (short_pick room dst two none))

abbrev pub chop_number : ℕ → ℕ → Float → List Float → List Float → ℕ
chop_number need room t src dst = chop_pick need room t src dst (number_of_refusal R.OutOfRange) (number_of_refusal R.BufferTooShort) 0

abbrev pub chop_answer : ℕ → ℕ → Float → List Float → List Float → Result (Unit {0}) Refusal
chop_answer need room t src dst = chop_pick need room t src dst (Err R.OutOfRange) (Err R.BufferTooShort) (Ok tt)

abbrev pub chop_buffer : ℕ → ℕ → Float → List Float → List Float → List Float → List Float
chop_buffer need room t src dst new = chop_pick need room t src dst dst dst (sets dst 0 new)

-- a store of the points `new` over the first of `dst`
abbrev pub store_pick : {A : Type 0} → List Float → List Float → A → A → A
store_pick dst new = short_pick (length new) dst

abbrev pub store_answer : List Float → List Float → Result (Unit {0}) Refusal
store_answer dst new = store_pick dst new (Err R.BufferTooShort) (Ok tt)

abbrev pub store_buffer : List Float → List Float → List Float
store_buffer dst new = store_pick dst new dst (sets dst 0 new)
