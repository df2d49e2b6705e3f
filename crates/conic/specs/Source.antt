-- A conic in a lent source: six numbers, x and y of each point (docs/RULES.md, "Conics"). Definitions only.
use Rattle.std.specs.Prelude.{◌≡◌, Bool, cond, List, [], ◌∷◌, ltb, length, Result, Ok, Err, Float}
use Rattle.point.specs.Numbers.{point_at}
use Rattle.conic.specs.declared.Conic.{Conic}
use Rattle.conic.specs.declared.Refusal.{Refusal}
use Rattle.conic.specs.declared.Rule.{Rule}
use Rattle.conic.specs.declared.Refusal.TheVariants.{BufferTooShort}
use Rattle.conic.specs.Chop.{conic_from}
use Rattle.conic.specs.Refusal.{number_of_refusal, values_of_refusal, number_of_from_points, values_of_from_points}

unfoldable pub conic_of : List Float → Float → Rule → Conic
conic_of l w u = conic_from (point_at l 0) (point_at l 2) (point_at l 4) w u

-- fewer than the six numbers of three points
abbrev pub short_source : List Float → Bool
short_source l = ltb (length l) 6

-- 2 where the source is short, and else what is well
abbrev pub refuse_source : {A : Type 0} → List Float → (Refusal → A) → A → A
refuse_source l refused well = cond (short_source l) (refused BufferTooShort) well

unfoldable pub source_answer : List Float → Float → Rule → Result Conic Refusal
source_answer l w u = refuse_source l Err (Ok (conic_of l w u))

-- the answer, its number and its values; two answers that meet it are one (`one_taken` of proofs/Unique)
pub record Taken (l : List Float) (w : Float) (u : Rule) (r : Result Conic Refusal) : Type 0 where
  pub answer : r ≡ source_answer l w u
  pub number : number_of_from_points r ≡ refuse_source l number_of_refusal 0
  pub values : values_of_from_points r ≡ refuse_source l values_of_refusal (conic_of l w u ∷ [])
