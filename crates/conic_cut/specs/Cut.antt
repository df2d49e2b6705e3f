-- What a cut writes: the points, by recursion on the level over any step, and the numbers in the lent buffer. Definitions only.
use Rattle.std.specs.Prelude.{ℕ, zero, suc, ◌+◌, ◌-◌, ◌*◌, ◌^◌, ◌≡◌, Bool, true, cond, ◌&&◌, ◌||◌, List, [], ◌∷◌, ◌++◌, ltb, length, drop, replicate, Result, Ok, Err, Float}
use Rattle.answers.specs.Answers.{number_of, values_of}
use Rattle.point.specs.declared.Point.{Point}
use Rattle.point.specs.Numbers.{flat}
use Rattle.point.specs.Point.{point_finite}
use Rattle.conic.specs.declared.Conic.{Conic}
use Rattle.conic.specs.declared.Halves.{Halves}
use Rattle.conic.specs.declared.Refusal.{Refusal}
use Rattle.conic.specs.declared.Refusal.TheVariants.{LevelTooHigh, BufferTooShort}
use Rattle.conic.specs.Level.{ceiling}
use Rattle.conic.specs.Refusal.{number_of_refusal, values_of_refusal}

-- ---- the points
-- of a cut by the step f, but for the first
unfoldable pub cut_points : (Conic → Halves) → ℕ → Conic → List Point
cut_points f zero c = c.p1 ∷ c.p2 ∷ []
cut_points f (suc n) c = cut_points f n (f c).first ++ cut_points f n (f c).second

-- those of both halves, each as a quad
abbrev pub half_points : Halves → List Point
half_points h = h.first.p1 ∷ h.first.p2 ∷ h.second.p1 ∷ h.second.p2 ∷ []

unfoldable pub all_finite : List Point → Bool
all_finite [] = true
all_finite (p ∷ ps) = point_finite p && all_finite ps

abbrev pub plain : (Conic → Halves) → ℕ → Conic → List Point
plain f n c = c.p0 ∷ cut_points f n c

-- all but the first and the last at the conic's middle point
unfoldable pub pinned : ℕ → Conic → List Point
pinned n c = c.p0 ∷ (replicate (2 * 2 ^ n - 1) c.p1 ++ (c.p2 ∷ []))

unfoldable pub written : (Conic → Halves) → ℕ → Conic → List Point
written f n c = cond (all_finite (plain f n c)) (plain f n c) (pinned n c)

-- ---- their numbers, x then y for each: how many they are
abbrev pub room : ℕ → ℕ
room n = 2 * (2 * 2 ^ n + 1)

-- ---- the call, at the level n, into a buffer of len numbers, from a source that may be short
-- the first refusal that applies, 1, then 2; and else what is well
abbrev pub refuse_cut : {A : Type 0} → ℕ → ℕ → Bool → (Refusal → A) → A → A
refuse_cut n len short refused well =
    cond (ltb ceiling n) (refused LevelTooHigh)
    (cond (ltb len (room n) || short) (refused BufferTooShort) well)

unfoldable pub cut_answer : ℕ → ℕ → Bool → Result ℕ Refusal
cut_answer n len short = refuse_cut n len short Err (Ok (2 ^ n))

unfoldable pub cut_buffer : (Conic → Halves) → ℕ → Conic → Bool → List Float → List Float
cut_buffer f n c short l = refuse_cut n (length l) short (λ _. l) (flat (written f n c) ++ drop (room n) l)

-- the number of an answer in docs/RULES.md, "Answer numbers", and its values: how many quads
abbrev pub number_of_cut : Result ℕ Refusal → ℕ
number_of_cut r = number_of number_of_refusal r

abbrev pub values_of_cut : Result ℕ Refusal → List ℕ
values_of_cut r = values_of r

-- the answer, its number and its values, and the buffer at exit; two that meet it are one (`one_cut` of proofs/Unique)
pub record CutInto (f : Conic → Halves) (n : ℕ) (c : Conic) (short : Bool) (l : List Float) (r : Result ℕ Refusal) (l₁ : List Float) : Type 0 where
  pub answer : r ≡ cut_answer n (length l) short
  pub number : number_of_cut r ≡ refuse_cut n (length l) short number_of_refusal 0
  pub values : values_of_cut r ≡ refuse_cut n (length l) short values_of_refusal (2 ^ n ∷ [])
  pub buffer : l₁ ≡ cut_buffer f n c short l
