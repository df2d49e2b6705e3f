-- The kinds of records and their numbers (docs/RULES.md, "The journal"). Definitions only.
use Rattle.std.specs.Prelude.{ℕ, ◌≡◌, Result, MatchResult}
use Rattle.records.specs.declared.Refusal.{Refusal}
use Rattle.records.specs.declared.Refusal.TheVariants.{UnknownKind}
use Rattle.records.specs.declared.kinds.Kind.{Kind}
use Rattle.records.specs.declared.kinds.Kind.TheVariants.{Conic, Transform, Correction}
use Rattle.records.specs.Record.{count_of}

abbrev pub number_of_kind : Kind → ℕ
number_of_kind Conic = 1
number_of_kind Transform = 2
number_of_kind Correction = 3

-- the answer is the kind with this number, or that there is none
abbrev pub Numbers : ℕ → Result Kind Refusal → Type 0
Numbers n answer = MatchResult answer (λ kind. number_of_kind kind ≡ n) (λ why. (why ≡ UnknownKind) × (count_of n ≡ 0))
