-- A list of numbers that is mapped in place, two at a time: `map_pairs l` is l with f applied to each two numbers, and `map_from i l` from i on.
-- Of whole points, that is the numbers of the mapped points (`whole_points`). Assumes nothing.
use mathlib.Core.Path.{◌≡◌, refl, ap}
use mathlib.Core.List.{List, [], ◌∷◌, map}
use Prim.Native.Nat.{ℕ, zero, suc, ◌+◌, ◌*◌, ◌%◌, ◌≤◌, ◌<◌}
use native.Mathlib.Numerals.{add-one}
use native.Mathlib.Omega.{arith}
use native.Mathlib.Nat.{not-suc-le-zero, le_of_suc-le-suc}
use lib.ListN.{length, get_or, set}
use lib.Ieee.{Float}
use Rattle.point.specs.declared.Point.{Point}
use Rattle.point.specs.Numbers.{flat, points_of}

module _ (f : Point → Point) where
  unfoldable pub map_pairs : List Float → List Float
  map_pairs [] = []
  map_pairs (x ∷ []) = x ∷ []
  map_pairs (x ∷ y ∷ rest) = let p = f (record { x = x; y = y }) in p.x ∷ p.y ∷ map_pairs rest

  abbrev pub map_from : ℕ → List Float → List Float
  map_from zero l = map_pairs l
  map_from (suc i) [] = []
  map_from (suc i) (x ∷ l) = x ∷ map_from i l

  step : (i : ℕ) (l : List Float) (d : Float) → suc i < length l →
      let p = f (record { x = get_or l i d; y = get_or l (suc i) d }) in map_from (suc (suc i)) (set (set l i p.x) (suc i) p.y) ≡ map_from i l
  unfolding map_pairs
  step i [] d h = absurd (not-suc-le-zero h)
  step zero (x ∷ []) d h = absurd (omega arith)
  step zero (x ∷ y ∷ l) d h = refl
  step (suc i) (x ∷ l) d h = ap (λ (m : List Float). x ∷ m) (step i l d (le_of_suc-le-suc h))

  -- the two of the pair i are mapped
  pub next : (i : ℕ) (l : List Float) (d : Float) {p : Point} → 2 * i + 1 < length l →
      p ≡ f (record { x = get_or l (2 * i) d; y = get_or l (2 * i + 1) d }) →
      map_from (2 * (i + 1)) (set (set l (2 * i) p.x) (2 * i + 1) p.y) ≡ map_from (2 * i) l
  next i l d h e =
      let two : 2 * (i + 1) ≡ suc (suc (2 * i)) = omega arith in
      rw (e, two, add-one) (step (2 * i) l d (omega arith))

  -- fewer than two are left
  pub all : (i : ℕ) (l : List Float) → length l ≤ i + 1 → map_from i l ≡ l
  unfolding map_pairs
  all zero [] h = refl
  all zero (x ∷ []) h = refl
  all zero (x ∷ y ∷ l) h = absurd (omega arith)
  all (suc i) [] h = refl
  all (suc i) (x ∷ l) h = ap (λ (m : List Float). x ∷ m) (all i l (omega arith))

  pub whole_points : (l : List Float) → length l % 2 ≡ 0 → map_pairs l ≡ flat (map f (points_of l))
  unfolding map_pairs flat points_of
  whole_points [] h = refl
  whole_points (x ∷ []) h = absurd (omega (arith, h))
  whole_points (x ∷ y ∷ l) h =
      let p = f (record { x = x; y = y }) in
      ap (λ (m : List Float). p.x ∷ p.y ∷ m) (whole_points l (omega (arith, h)))
