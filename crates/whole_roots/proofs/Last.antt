-- The last step, to the nearest whole number: what it finds, and how large the numbers on the way are. Assumes nothing.
use mathlib.Core.Path.{◌≡◌, ap}
use Prim.Native.Nat.{ℕ, suc, ◌+◌, ◌-◌, ◌*◌, ◌/◌, ◌≤◌, ◌<◌}
use native.Mathlib.Nat.{le_trans, le_of_suc-le-suc, lt_of_not-le, not-le_of_lt, mul-le-mul_right}
use native.Mathlib.Omega.{arith}
use Rattle.whole_roots.specs.Table.{Nearest}
use Rattle.whole_roots.proofs.Heron.{by_le, by_gt, part_le, left_is}

-- r is what was found, p its last digits, v what is then left: which of the two neighbours is nearest
module _ (n r p v : ℕ) (is : n + p * p ≡ r * r + v) where
  above : p * p + r < v → v ≤ p * p + 3 * r + 2 → Nearest n (r + 1)
  above h most = (omega (arith, is), omega (arith, is))

  below : v ≤ p * p + r → p * p < v + r → Nearest n r
  below h least = (omega (arith, is), omega (arith, is))

-- moved up by b: p is what is left of the root s by 2 s + e, u what is then left by 2 s
module _ (b e s rest : ℕ) (some : 0 < s + s + e) where
  abbrev pub p : ℕ
  p = rest * b / (s + s + e)

  abbrev pub u : ℕ
  u = rest * b - p * (s + s)

  p_le : p * (s + s + e) ≤ rest * b
  p_le = by_le (rest * b) (s + s) e some

  pub p_most : (m : ℕ) → rest * b < suc m * (s + s + e) → p ≤ m
  p_most m h = le_of_suc-le-suc (lt_of_not-le (λ (g : suc m ≤ p). not-le_of_lt h (le_trans (mul-le-mul_right (s + s + e) g) p_le)))

  pub ps_le : p * (s + s) ≤ rest * b
  ps_le = part_le (rest * b) (s + s) e some

  u_is : u + p * (s + s) ≡ rest * b
  u_is = left_is (rest * b) (s + s) e some

  pub u_lt : u < s + s + e + e * p
  u_lt = omega (arith, u_is, by_gt (rest * b) (s + s) e some)

  pub u_ge : e * p ≤ u
  u_ge = omega (arith, u_is, p_le)

  sum : (s * s + rest) * (b * b) + p * p ≡ (s * b + p) * (s * b + p) + u * b
  sum = go p u (ap (λ (y : ℕ). y * b) u_is)
    where
      go : (p u : ℕ) → (u + p * (s + s)) * b ≡ rest * b * b → (s * s + rest) * (b * b) + p * p ≡ (s * b + p) * (s * b + p) + u * b
      go p u h = omega (arith, h)

  pub goes_up : p * p + (s * b + p) < u * b → u * b ≤ p * p + 3 * (s * b + p) + 2 → Nearest ((s * s + rest) * (b * b)) (s * b + p + 1)
  goes_up = above ((s * s + rest) * (b * b)) (s * b + p) p (u * b) sum

  pub stays : u * b ≤ p * p + (s * b + p) → p * p < u * b + (s * b + p) → Nearest ((s * s + rest) * (b * b)) (s * b + p)
  stays = below ((s * s + rest) * (b * b)) (s * b + p) p (u * b) sum
