-- What follows from the contracts of mapping: numbers and points agree, the identity moves nothing, and a refusal changes nothing. Assumes nothing.
use mathlib.Core.Path.{◌≡◌, refl, ap}
use mathlib.Core.Bool.{Bool, true, false, cond}
use mathlib.Core.List.{List, [], ◌∷◌, map}
use Prim.Native.Nat.{ℕ, ◌%◌}
use native.Mathlib.Omega.{arith}
use borrow.Author.Tests.{eqb-true}
use lib.Dec.{eqb}
use lib.ListN.{length}
use lib.Ieee.{Float, of_bits, eq, ne}
use Rattle.float_laws.specs.Formula.{zero32, one32}
use Rattle.point.specs.declared.Point.{Point}
use Rattle.point.specs.Numbers.{flat, points_of}
use Rattle.transform.specs.declared.Transform.{Transform}
use Rattle.transform.specs.Row.{row_of}
use Rattle.transform.specs.Kinds.{is_identity, has_only}
use Rattle.transform.specs.Mapped.{map_point}
use Rattle.mapping.specs.Numbers.{mapping_number, mapped_numbers}

points_flat : (ps : List Point) → points_of (flat ps) ≡ ps
unfolding flat points_of
points_flat [] = refl
points_flat (p ∷ ps) = ap (λ (l : List Point). p ∷ l) (points_flat ps)

flat_even : (ps : List Point) → length (flat ps) % 2 ≡ 0
unfolding flat
flat_even [] = refl
flat_even (p ∷ ps) = omega (arith, flat_even ps)

-- mapping the numbers of points gives the numbers of the mapped points
pub numbers_as_points : (t : Transform) (ps : List Point) → mapped_numbers t (flat ps) ≡ flat (map (map_point t) ps)
numbers_as_points t ps = rw (flat_even ps, points_flat ps)

-- a refusal changes nothing
pub refusal_keeps : (t : Transform) (l : List Float) → mapping_number l ≡ 9 → mapped_numbers t l ≡ l
refusal_keeps t l refused = go (eqb (length l % 2) 0) refused
  where
    go : (b : Bool) → ◌≡◌ {A = ℕ} (cond b 0 9) 9 → cond b (flat (map (map_point t) (points_of l))) l ≡ l
    go true e = absurd (omega (arith, e))
    go false e = refl

map_keeps : (f : Point → Point) → ((p : Point) → f p ≡ p) → (ps : List Point) → map f ps ≡ ps
map_keeps f keeps [] = refl
map_keeps f keeps (p ∷ ps) = rw (keeps p, map_keeps f keeps ps)

flat_points : (l : List Float) → length l % 2 ≡ 0 → flat (points_of l) ≡ l
unfolding flat points_of
flat_points [] h = refl
flat_points (x ∷ []) h = absurd (omega (arith, h))
flat_points (x ∷ y ∷ l) h = ap (λ (m : List Float). x ∷ y ∷ m) (flat_points l (omega (arith, h)))

module _ (t : Transform) (identity : is_identity t ≡ true) where
  point_stays : (p : Point) → map_point t p ≡ p
  unfolding map_point
  point_stays p = rw identity

  -- the identity moves nothing
  pub points_stay : (ps : List Point) → map (map_point t) ps ≡ ps
  points_stay ps = map_keeps (map_point t) point_stays ps

  pub numbers_stay : (l : List Float) → mapped_numbers t l ≡ l
  numbers_stay l = go (eqb (length l % 2) 0) refl
    where
      go : (b : Bool) → eqb (length l % 2) 0 ≡ b → cond b (flat (map (map_point t) (points_of l))) l ≡ l
      go true e = rw (points_stay (points_of l)) (flat_points l (eqb-true _ _ e))
      go false e = refl

pub the_identity : is_identity (row_of one32 zero32 zero32 one32 zero32 zero32) ≡ true
unfolding has_only ne eq of_bits
the_identity = refl
