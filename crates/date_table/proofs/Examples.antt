-- Dates that docs/RULES.md gives, and those of a small table with a jump and a stop, as antt computes them. Assumes nothing.
use Rattle.std.proofs.Common.{◌≡◌, ℕ, false, T, List, [], ◌∷◌, map, pos, refl}
use Rattle.std.specs.Prelude.{Result, Ok, Err}
use lib.Ieee.{Float, fin, lt, eq, le}
use Rattle.point.specs.Point.{point_from}
use Rattle.conic.specs.declared.Conic.{Conic}
use Rattle.conic.specs.declared.Rule.{Rule}
use Rattle.conic.specs.Chop.{along, conic_from}
use Rattle.conic.specs.Rule.{Axis, X, Y}
use Rattle.date_table.specs.declared.Refusal.{Refusal}
use Rattle.date_table.specs.declared.Refusal.TheVariants.{BufferTooShort, OddLength, EntryOutOfRange, TimeOutside, TableFalls}
use Rattle.date_table.specs.Forward.{Forward}
use Rattle.date_table.specs.Whole.{in_range}
use Rattle.date_table.specs.Table.{within, rising, first_x, last_x, last_y, or_else, last_from, span_at, date_in, date_of}

figures : map (date_of (0 ∷ 0 ∷ 3 ∷ 1 ∷ 4 ∷ 4 ∷ [])) (0 ∷ 1 ∷ 2 ∷ 3 ∷ 4 ∷ 5 ∷ []) ≡ Ok 0 ∷ Ok 0 ∷ Ok 0 ∷ Ok 1 ∷ Ok 4 ∷ Err TimeOutside ∷ []
unfolding date_of within rising first_x last_x last_y or_else last_from span_at date_in
figures = refl

-- a jump at 10, where the last of two entries counts, and a stop from 20 to 30; 9 gets 100 + 7 * 5 / 8
abbrev jumps_and_stops : List ℕ
jumps_and_stops = 2 ∷ 100 ∷ 10 ∷ 105 ∷ 10 ∷ 200 ∷ 20 ∷ 210 ∷ 30 ∷ 210 ∷ []

dates : map (date_of jumps_and_stops) (1 ∷ 2 ∷ 9 ∷ 10 ∷ 25 ∷ 30 ∷ []) ≡ Err TimeOutside ∷ Ok 100 ∷ Ok 104 ∷ Ok 200 ∷ Ok 210 ∷ Ok 210 ∷ []
unfolding date_of within rising first_x last_x last_y or_else last_from span_at date_in
dates = refl

-- 2, 9, 10 before 12, 12 before 11
abbrev at_0 : List ℕ → Result ℕ Refusal
at_0 l = date_of l 0

refusals : map at_0 ([] ∷ (16777217 ∷ []) ∷ (5 ∷ 7 ∷ 4 ∷ 16777217 ∷ []) ∷ (5 ∷ 7 ∷ 6 ∷ 6 ∷ []) ∷ [])
    ≡ Err BufferTooShort ∷ Err OddLength ∷ Err EntryOutOfRange ∷ Err TableFalls ∷ []
unfolding date_of within rising
refusals = refl

-- ---- the bend of the figures is a forward bridge, whatever its weight and its rule
abbrev none : Float
none = fin false 0 (pos 0)

abbrev four : Float
four = fin false 1 (pos 2)

abbrev bend : Float → Rule → Conic
bend w u = conic_from (point_from none none) (point_from four none) (point_from four four) w u

both : (P : Axis → Type 0) → P X → P Y → (k : Axis) → P k
both P x y X = x
both P x y Y = y

forward : (w : Float) (u : Rule) → Forward (bend w u)
unfolding in_range le lt eq
forward w u = record {
  start = both (λ k. T (in_range (along k (point_from none none)))) tt tt;
  middle = both (λ k. T (in_range (along k (point_from four none)))) tt tt;
  end = both (λ k. T (in_range (along k (point_from four four)))) tt tt;
  rises_to = both (λ k. T (le (along k (point_from none none)) (along k (point_from four none)))) tt tt;
  rises_on = both (λ k. T (le (along k (point_from four none)) (along k (point_from four four)))) tt tt;
}
