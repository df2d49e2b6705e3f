-- What `AutoConicToQuads` answers of a conic: the cut at the level for a tolerance of a quarter, by the crate's own ceiling. The call
-- gives it the product rule (docs/RULES.md, "Conics"). Definitions only.
use Rattle.std.specs.Prelude.{ℕ, ◌^◌, ◌≡◌, cond, List, [], ◌∷◌, ◌++◌, drop, replicate, Result, Ok, Err, Float}
use Rattle.float_laws.specs.Formula.{zero32, quarter32}
use Rattle.conic.specs.declared.Conic.{Conic}
use Rattle.conic.specs.declared.Refusal.{Refusal}
use Rattle.conic.specs.declared.Refusal.TheVariants.{PointNotFinite}
use Rattle.conic.specs.Chop.{chop_by_rule}
use Rattle.conic.specs.Level.{crate_ceiling, conic_finite, level_of}
use Rattle.conic_cut.specs.declared.AutoConicToQuads.{AutoConicToQuads}
use Rattle.point.specs.Numbers.{flat}
use Rattle.conic.specs.Refusal.{number_of_refusal, values_of_refusal}
use Rattle.conic_cut.specs.Cut.{written, room, number_of_cut, values_of_cut}

unfoldable pub zeros : List Float
zeros = replicate 128 zero32

abbrev pub auto_level : Conic → ℕ
auto_level c = level_of crate_ceiling c quarter32

-- 3 where a point is not finite, and else what is well
abbrev pub refuse_auto : {A : Type 0} → Conic → (Refusal → A) → A → A
refuse_auto c refused well = cond (conic_finite c) well (refused PointNotFinite)

unfoldable pub auto_answer : Conic → Result ℕ Refusal
auto_answer c = refuse_auto c Err (Ok (2 ^ auto_level c))

unfoldable pub auto_points : Conic → List Float
auto_points c = refuse_auto c (λ _. zeros) (flat (written chop_by_rule (auto_level c) c) ++ drop (room (auto_level c)) zeros)

-- the answer, its number and its values, and the points; two results that meet it are one (`one_computed` of proofs/Unique)
pub record Computed (c : Conic) (r : AutoConicToQuads) : Type 0 where
  pub answer : r.answer ≡ auto_answer c
  pub number : number_of_cut r.answer ≡ refuse_auto c number_of_refusal 0
  pub values : values_of_cut r.answer ≡ refuse_auto c values_of_refusal (2 ^ auto_level c ∷ [])
  pub points : r.points ≡ auto_points c
