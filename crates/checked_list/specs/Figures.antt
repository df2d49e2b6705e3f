-- The figures that docs/RULES.md, "Figures", marks for the checked list, floats by their patterns, and what it is for one to hold. Definitions only.
use Rattle.std.specs.Prelude.{ℕ, ◌≡◌, Bool, true, false, List, [], ◌∷◌, Ok, Float}
use Rattle.std.specs.Float.{Format, binary32, binary64}
use Rattle.std.specs.Float.Ieee.{of_bits, to_bits}
use Rattle.float_laws.specs.Absolute.{abs_of}
use Rattle.float_laws.specs.Narrow.{narrow_of}
use Rattle.float_laws.specs.Root.{Root}
use Rattle.point.specs.declared.Point.{Point}
use Rattle.point.specs.Point.{point_from}
use Rattle.quad_roots.specs.Roots.{roots_of, values_of_roots}
use Rattle.conic.specs.declared.Conic.{Conic}
use Rattle.conic.specs.declared.Rule.{Rule}
use Rattle.conic.specs.declared.Rule.TheVariants.{Product, Exact, BothAxes}
use Rattle.conic.specs.declared.ruling.Test.{Test}
use Rattle.conic.specs.declared.ruling.Test.TheVariants as By
use Rattle.conic.specs.Between.{passes}
use Rattle.conic.specs.Chop.{conic_from, chop_by_rule}
use Rattle.point.specs.Numbers.{flat}
use Rattle.conic_cut.specs.Cut.{all_finite, plain, written, room, cut_answer, number_of_cut}

pub data Figure : Type 0 where
  -- x and its root, in a format
  root : Format → ℕ → ℕ → Figure
  -- an f64 and what it is narrowed to
  narrowed : ℕ → ℕ → Figure
  -- an f32 and its absolute value
  absolute : ℕ → ℕ → Figure
  -- a, b and c, and the roots of a·t² + b·t + c strictly between 0 and 1
  roots : ℕ → ℕ → ℕ → List ℕ → Figure
  -- whether the test finds the second number between the others
  between : Test → ℕ → ℕ → ℕ → Bool → Figure
  -- the conic below, of a weight, cut by the rule at a level: how many quads, whether no point is pinned, and the numbers of the points
  cut : Rule → ℕ → ℕ → ℕ → Bool → List ℕ → Figure
  -- a level, how many numbers there is room for, and how many quads a cut has
  answered : ℕ → ℕ → ℕ → Figure
  -- a level, how many numbers there is room for, and the number of the refusal in docs/RULES.md, "Answer numbers"
  refused : ℕ → ℕ → ℕ → Figure

unfoldable pub bits : List Float → List ℕ
bits [] = []
bits (x ∷ l) = to_bits binary32 x ∷ bits l

unfoldable pub at : ℕ → ℕ → Point
at x y = point_from (of_bits binary32 x) (of_bits binary32 y)

-- (0,0), (4,0), (4,4), the weight by its pattern
unfoldable pub corner : ℕ → Rule → Conic
corner w u = conic_from (at 0 0) (at 0x4080_0000 0) (at 0x4080_0000 0x4080_0000) (of_bits binary32 w) u

-- a root by its meaning: no other value of the format is nearer
abbrev pub Holds : Figure → Type 0
Holds (root f x r) = Root f (of_bits f x) (of_bits f r)
Holds (narrowed x r) = to_bits binary32 (narrow_of (of_bits binary64 x)) ≡ r
Holds (absolute x r) = to_bits binary32 (abs_of (of_bits binary32 x)) ≡ r
Holds (roots a b c l) = bits (values_of_roots (roots_of (of_bits binary32 a) (of_bits binary32 b) (of_bits binary32 c))) ≡ l
Holds (between t a b c answer) = passes t (of_bits binary32 a) (of_bits binary32 b) (of_bits binary32 c) ≡ answer
Holds (cut u w n quads whole l) =
    (cut_answer n (room n) false ≡ Ok quads)
    × ((all_finite (plain chop_by_rule n (corner w u)) ≡ whole) × (bits (flat (written chop_by_rule n (corner w u))) ≡ l))
Holds (answered n len quads) = cut_answer n len false ≡ Ok quads
Holds (refused n len number) = number_of_cut (cut_answer n len false) ≡ number

abbrev pub AllHold : List Figure → Type 0
AllHold [] = Unit {0}
AllHold (g ∷ l) = Holds g × AllHold l

abbrev pub figures : List Figure
figures =
    -- of 4, of 2 and of 2^-149
    root binary32 0x4080_0000 0x4000_0000
    ∷ root binary32 0x4000_0000 0x3fb5_04f3
    ∷ root binary32 1 0x1a35_04f3
    -- of −0, in both formats
    ∷ root binary32 0x8000_0000 0x8000_0000
    ∷ root binary64 0x8000_0000_0000_0000 0x8000_0000_0000_0000
    -- 16777217 and 16777219 to 16777216 and 16777220
    ∷ narrowed 0x4170_0000_1000_0000 0x4b80_0000
    ∷ narrowed 0x4170_0000_3000_0000 0x4b80_0002
    -- −2^-200 and −2^-1074, the negative double nearest to zero, to −0
    ∷ narrowed 0xb370_0000_0000_0000 0x8000_0000
    ∷ narrowed 0x8000_0000_0000_0001 0x8000_0000
    -- that of −0 is 0
    ∷ absolute 0x8000_0000 0
    -- (8,-6,1): 0.25 and 0.5; (4,-4,1): 0.5; (0,4,-1): 0.25; (1,0,1) and (0,0,1): none
    ∷ roots 0x4100_0000 0xc0c0_0000 0x3f80_0000 (0x3e80_0000 ∷ 0x3f00_0000 ∷ [])
    ∷ roots 0x4080_0000 0xc080_0000 0x3f80_0000 (0x3f00_0000 ∷ [])
    ∷ roots 0 0x4080_0000 0xbf80_0000 (0x3e80_0000 ∷ [])
    ∷ roots 0x3f80_0000 0 0x3f80_0000 []
    ∷ roots 0 0 0x3f80_0000 []
    -- (0, 2^-100, 0) and (-2^127, 2^127, 2^127)
    ∷ between By.Product 0 0x0d80_0000 0 true
    ∷ between By.Exact 0 0x0d80_0000 0 false
    ∷ between By.Product 0xff00_0000 0x7f00_0000 0x7f00_0000 false
    ∷ between By.Exact 0xff00_0000 0x7f00_0000 0x7f00_0000 true
    -- weight 1: at level 0 the three points; at level 1 (0,0), (2,0), (3,1), (4,2), (4,4)
    ∷ cut Product 0x3f80_0000 0 1 true (0 ∷ 0 ∷ 0x4080_0000 ∷ 0 ∷ 0x4080_0000 ∷ 0x4080_0000 ∷ [])
    ∷ cut Exact 0x3f80_0000 0 1 true (0 ∷ 0 ∷ 0x4080_0000 ∷ 0 ∷ 0x4080_0000 ∷ 0x4080_0000 ∷ [])
    ∷ cut Product 0x3f80_0000 1 2 true (0 ∷ 0 ∷ 0x4000_0000 ∷ 0 ∷ 0x4040_0000 ∷ 0x3f80_0000 ∷ 0x4080_0000 ∷ 0x4000_0000 ∷ 0x4080_0000 ∷ 0x4080_0000 ∷ [])
    ∷ cut Exact 0x3f80_0000 1 2 true (0 ∷ 0 ∷ 0x4000_0000 ∷ 0 ∷ 0x4040_0000 ∷ 0x3f80_0000 ∷ 0x4080_0000 ∷ 0x4000_0000 ∷ 0x4080_0000 ∷ 0x4080_0000 ∷ [])
    -- NaN weight, both axes: (0,0), (0,0), (4,4), (4,4), (4,4), not pinned
    ∷ cut BothAxes 0x7fc0_0000 1 2 true (0 ∷ 0 ∷ 0 ∷ 0 ∷ 0x4080_0000 ∷ 0x4080_0000 ∷ 0x4080_0000 ∷ 0x4080_0000 ∷ 0x4080_0000 ∷ 0x4080_0000 ∷ [])
    -- nine numbers of room at level 1; level 5, level 6 with just the room, and level 7
    ∷ refused 1 9 2
    ∷ answered 5 1000 32
    ∷ answered 6 258 64
    ∷ refused 7 1000 1
    ∷ []
