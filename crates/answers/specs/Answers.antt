-- An answer's number in docs/RULES.md, "Answer numbers", and its value; a refusal has none. Definitions only.
use Rattle.std.specs.Prelude.{ℕ, List, [], ◌∷◌, Result, Ok, Err}

-- by the numbers of the refusals
abbrev pub number_of : {A R : Type 0} → (R → ℕ) → Result A R → ℕ
number_of refused (Ok x) = 0
number_of refused (Err why) = refused why

-- the value, and `old` beside a refusal
abbrev pub value_or : {A R : Type 0} → A → Result A R → A
value_or old (Ok x) = x
value_or old (Err why) = old

-- the value, as a list
abbrev pub values_of : {A R : Type 0} → Result A R → List A
values_of (Ok x) = x ∷ []
values_of (Err why) = []
