-- What it is for points to run one way along an axis, and where those of a cut do: docs/RULES.md, "Order". Definitions only.
use Rattle.std.specs.Prelude.{ℕ, ◌+◌, ◌*◌, ◌^◌, ◌≤◌, ◌≡◌, Bool, List, [], ◌∷◌, ◌⊎◌, T, length, take, drop, Float}
use Rattle.std.specs.Float.Ieee.{le}
use Rattle.std.specs.Float.Ieee.Scale.{finite}
use Rattle.point.specs.declared.Point.{Point}
use Rattle.conic.specs.declared.Conic.{Conic}
use Rattle.conic.specs.declared.ruling.Test.TheVariants as By
use Rattle.conic.specs.Between.{exact_test}
use Rattle.conic.specs.Chop.{along}
use Rattle.conic.specs.Level.{ceiling}
use Rattle.conic.specs.Rule.{Axis, test_along}
use Rattle.point.specs.Numbers.{points_of}
use Rattle.conic_cut.specs.Cut.{room}

-- along k each point stands to the next as R says
unfoldable pub Steps : (Float → Float → Bool) → Axis → List Point → Type 0
Steps R k [] = Unit {0}
Steps R k (p ∷ []) = Unit {0}
Steps R k (p ∷ q ∷ l) = T (R (along k p) (along k q)) × Steps R k (q ∷ l)

abbrev pub ge : Float → Float → Bool
ge x y = le y x

-- along k the points only rise, or only fall; ties are allowed, and a zero's sign is not seen
abbrev pub OneWay : Axis → List Point → Type 0
OneWay k ps = Steps le k ps ⊎ Steps ge k ps

-- finite in each coordinate
abbrev pub FiniteCoordinates : Point → Type 0
FiniteCoordinates p = (k : Axis) → T (finite (along k p))

unfoldable pub AllFiniteCoordinates : List Point → Type 0
AllFiniteCoordinates [] = Unit {0}
AllFiniteCoordinates (p ∷ l) = FiniteCoordinates p × AllFiniteCoordinates l

-- the first and the last of the points, or s where there is none
unfoldable pub first_of : Point → List Point → Point
first_of s [] = s
first_of s (p ∷ l) = p

unfoldable pub last_of : Point → List Point → Point
last_of s [] = s
last_of s (p ∷ l) = last_of p l

-- three finite points, along k the middle one between the ends or equal to one; the weight may be anything
pub record Premise (k : Axis) (c : Conic) : Type 0 where
  pub start : FiniteCoordinates c.p0
  pub middle : FiniteCoordinates c.p1
  pub end : FiniteCoordinates c.p2
  pub between : T (exact_test (along k c.p0) (along k c.p1) (along k c.p2))

-- the points lead from the conic's start to its end, all finite, and along k they only rise or only fall
pub record InOrder (k : Axis) (c : Conic) (ps : List Point) : Type 0 where
  pub one_way : OneWay k ps
  pub all_finite_lem : AllFiniteCoordinates ps
  pub first : first_of c.p0 ps ≡ c.p0
  pub last : last_of c.p0 ps ≡ c.p2

-- the points that a buffer holds after a cut at the level n
abbrev pub cut_in : ℕ → List Float → List Point
cut_in n l = points_of (take (room n) l)

-- a buffer, l at entry and l₁ at exit, holds as many points as a cut at the level n has, in order along k, and after them what it held
pub record OrderedCut (k : Axis) (n : ℕ) (c : Conic) (l l₁ : List Float) : Type 0 where
  pub count : length (cut_in n l₁) ≡ 2 * 2 ^ n + 1
  pub in_order : InOrder k c (cut_in n l₁)
  pub rest : drop (room n) l₁ ≡ drop (room n) l

-- docs/RULES.md, "Order", along k
abbrev pub OrderAlong : Axis → ℕ → Conic → List Float → List Float → Type 0
OrderAlong k n c l l₁ = n ≤ ceiling → room n ≤ length l → Premise k c → OrderedCut k n c l l₁

-- along each axis that the conic's rule puts in order by the exact test; of both at once it is said of the same points
abbrev pub OrderKept : ℕ → Conic → List Float → List Float → Type 0
OrderKept n c l l₁ = (k : Axis) → test_along k c.rule ≡ By.Exact → OrderAlong k n c l l₁
