-- What a call leaves in lent memory: the values of its answer, and what stood there where it has none (docs/RULES.md, "The C face").
-- Definitions only.
use Rattle.std.specs.Prelude.{ℕ, cond, List, [], ◌∷◌, eqb, length, Result, Ok, Err, Float}
use Rattle.quad_roots.specs.declared.Roots.{Roots}
use Rattle.cubics.specs.declared.Refusal as C
use Rattle.cubics.specs.Cubics.{number_of_inflections, values_of_inflections}
use Rattle.conic.specs.declared.Refusal.{Refusal}
use Rattle.conic.specs.declared.Rule.TheVariants.{Product}
use Rattle.conic.specs.Source.{conic_of, refuse_source}
use Rattle.conic_cut.specs.Auto.{auto_answer}

-- in one place
abbrev pub first_or : {A : Type 0} → A → List A → A
first_or x [] = x
first_or x (v ∷ vs) = v

-- in an array that the values fill
abbrev pub filled_or : List Float → List Float → List Float
filled_or l [] = l
filled_or l (v ∷ vs) = v ∷ vs

-- how many there are, which none is too, unless it is a refusal
abbrev pub count_or : ℕ → Result Roots C.Refusal → ℕ
count_or n found = cond (eqb (number_of_inflections found) 0) (length (values_of_inflections found)) n

-- ---- `AutoConicToQuads`: its points stand beside its answer, and are given unless that is a refusal
abbrev pub points_or : List Float → Result ℕ Refusal → List Float → List Float
points_or l (Ok q) ps = ps
points_or l (Err r) ps = l

-- of a lent source
abbrev pub auto_from : List Float → Float → Result ℕ Refusal
auto_from l w = refuse_source l Err (auto_answer (conic_of l w Product))
