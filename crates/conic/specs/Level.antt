-- The highest levels, and the level choice: how far one quad would be from a conic, and how often that is quartered until it is
-- within the tolerance (docs/RULES.md, "Conics"). Definitions only.
use Rattle.std.specs.Prelude.{ℕ, zero, suc, ◌≡◌, Bool, not, cond, ◌&&◌, ◌||◌, [], ◌∷◌, eqb, Result, Ok, Err, Float}
use Rattle.std.specs.Float.{binary32}
use Rattle.std.specs.Float.Ieee.{lt, le}
use Rattle.std.specs.Float.Ieee.Scale.{finite}
use Rattle.float_laws.specs.Formula.{◌⊕◌, ◌⊖◌, ◌⊗◌, ◌⊘◌, zero32, quarter32, one32, two32, four32}
use Rattle.float_laws.specs.Root.{root_of}
use Rattle.point.specs.Point.{point_finite}
use Rattle.conic.specs.declared.Conic.{Conic}
use Rattle.conic.specs.declared.Refusal.{Refusal}
use Rattle.conic.specs.declared.Refusal.TheVariants.{LevelTooHigh, BufferTooShort, PointNotFinite, BadTolerance}
use Rattle.conic.specs.declared.leveling.Limits.{Limits}
use Rattle.conic.specs.Refusal.{number_of_refusal, values_of_refusal, number_of_level, values_of_level}

-- the highest level of a cut
abbrev pub ceiling : ℕ
ceiling = 6

-- the crate's own ceiling of a level choice
abbrev pub crate_ceiling : ℕ
crate_ceiling = 4

-- no ceiling of a level choice: neither of the two
abbrev pub bad_ceiling : ℕ → Bool
bad_ceiling m = not (eqb m crate_ceiling) && not (eqb m ceiling)

-- (a − 2b) + c
abbrev pub bend_of : Float → Float → Float → Float
bend_of a b c = a ⊖ two32 ⊗ b ⊕ c

unfoldable pub error_of : Conic → Float
error_of c =
    let a = c.weight ⊖ one32 in
    let k = a ⊘ (four32 ⊗ (two32 ⊕ a)) in
    let x = k ⊗ bend_of c.p0.x c.p1.x c.p2.x in
    let y = k ⊗ bend_of c.p0.y c.p1.y c.p2.y in
    root_of binary32 (x ⊗ x ⊕ y ⊗ y)

-- how often the error e is quartered until it is at most t, n times at most; a NaN never gets there
unfoldable pub quarterings_of : ℕ → Float → Float → ℕ
quarterings_of zero e t = 0
quarterings_of (suc n) e t = cond (le e t) 0 (suc (quarterings_of n (e ⊗ quarter32) t))

abbrev pub at_least_one : ℕ → ℕ
at_least_one zero = 1
at_least_one (suc n) = suc n

-- by the ceiling m
unfoldable pub level_of : ℕ → Conic → Float → ℕ
level_of m c t = at_least_one (quarterings_of m (error_of c) t)

abbrev pub bad_tolerance : Float → Bool
bad_tolerance t = lt t zero32 || not (finite t)

abbrev pub conic_finite : Conic → Bool
conic_finite c = (point_finite c.p0 && point_finite c.p1) && point_finite c.p2

-- the first refusal that applies, 1, then 4, then 2 where a lent source is short, then 3; and else what is well
abbrev pub refuse_level : {A : Type 0} → ℕ → Bool → Conic → Float → (Refusal → A) → A → A
refuse_level m short c t refused well =
    cond (bad_ceiling m) (refused LevelTooHigh)
    (cond (bad_tolerance t) (refused BadTolerance)
    (cond short (refused BufferTooShort)
    (cond (conic_finite c) well (refused PointNotFinite))))

unfoldable pub level_answer : ℕ → Bool → Conic → Float → Result ℕ Refusal
level_answer m short c t = refuse_level m short c t Err (Ok (level_of m c t))

-- its two steps: the limits, refused with 1, then 4; and the level of a conic by these, refused with 3
abbrev pub limits_of : Float → ℕ → Result Limits Refusal
limits_of t m =
    cond (bad_ceiling m) (Err LevelTooHigh)
    (cond (bad_tolerance t) (Err BadTolerance)
    (Ok (record { tolerance = t; ceiling = m })))

abbrev pub level_by : Limits → Conic → Result ℕ Refusal
level_by l c = cond (conic_finite c) (Ok (level_of l.ceiling c l.tolerance)) (Err PointNotFinite)

-- the answer, its number and its values; two answers that meet it are one (`one_chosen` of proofs/Unique)
pub record Chosen (m : ℕ) (short : Bool) (c : Conic) (t : Float) (r : Result ℕ Refusal) : Type 0 where
  pub answer : r ≡ level_answer m short c t
  pub number : number_of_level r ≡ refuse_level m short c t number_of_refusal 0
  pub values : values_of_level r ≡ refuse_level m short c t values_of_refusal (level_of m c t ∷ [])
