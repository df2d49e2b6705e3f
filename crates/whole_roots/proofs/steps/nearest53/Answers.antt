-- `whole_roots::steps::nearest53` meets its contract, by the laws of `Last`. Assumes nothing.
use mathlib.Core.Path.{◌≡◌, subst}
use mathlib.Core.Logic.{◌⊎◌, inl, inr}
use Prim.Native.Nat.{ℕ, ◌+◌, ◌-◌, ◌*◌, ◌≤◌, ◌<◌}
use native.Mathlib.Nat.{mul-le-mul_right}
use native.Mathlib.Omega.{arith}
use Rattle.whole_roots.specs.Table.{Nearest}
use Rattle.whole_roots.proofs.Heron.{split, twice}
use Rattle.whole_roots.proofs.Last as last
use Rattle.whole_roots.proofs.Only.{root_lt}
use Rattle.whole_roots.proofs.steps.nearest53.Goals as goal
use Rattle.whole_roots.proofs.steps.nearest53.Goals.{After-near27-s}

-- where p is small by itself, else by the squares
enough : (p s : ℕ) → 67108864 ≤ s → (p ≤ 25165824) ⊎ (25165824 ≤ p) → 134217728 * p + 67108864 ≤ p * p + 67108864 * s + 3 * p
enough p s lo (inl l) = omega arith
enough p s lo (inr l) = omega (arith, twice p 67108864)

module _ (c : After-near27-s) where
  abbrev n : ℕ
  n = c.args.n

  abbrev s : ℕ
  s = c.near27-s.result

  abbrev rest : ℕ
  rest = n - s * s

  lo : 67108864 ≤ s
  lo = omega (arith, c.near27-s.ensures.0)

  hi : s < 134217728
  hi = let l : n < 134217728 * 134217728 = omega (arith, c.requires.high) in root_lt 134217728 s n l c.near27-s.ensures.1.0

  n-is : s * s + rest ≡ n
  n-is = omega (arith, c.near27-s.ensures.1.0)

  few : rest < 4 * s
  few = omega (arith, n-is, c.near27-s.ensures.1.1)

  some : 0 < s + s + 2
  some = omega arith

  abbrev p : ℕ
  p = last.p 67108864 2 s rest some

  p_most : p ≤ 134217727
  p_most = let l : rest * 67108864 < 134217728 * (s + s + 2) = omega (arith, few, lo) in last.p_most 67108864 2 s rest some 134217727 l

  square_le : p * p ≤ 134217727 * p
  square_le = mul-le-mul_right p p_most

  part_le : p * (s + s) ≤ rest * 67108864
  part_le = last.ps_le 67108864 2 s rest some

  u_lt : last.u 67108864 2 s rest some < s + s + 2 + 2 * p
  u_lt = last.u_lt 67108864 2 s rest some

pub overflow_add-d : goal.overflow_add-d
overflow_add-d c = record { fits = omega (arith, hi c) }

pub overflow_mul-t-2 : goal.overflow_mul-t-2
overflow_mul-t-2 c = record { fits = omega (arith, few c, hi c) }

pub overflow_add-p : goal.overflow_add-p
overflow_add-p c = record { fits = omega (arith, hi c) }

pub overflow_mul-r : goal.overflow_mul-r
overflow_mul-r c = record { fits = omega (arith, hi c) }

pub overflow_add-r : goal.overflow_add-r
overflow_add-r c = record { fits = omega (arith, hi c, p_most c) }

pub overflow_mul-p : goal.overflow_mul-p
overflow_mul-p c = record { fits = omega (arith, part_le c, few c, hi c) }

pub overflow_sub-t-2 : goal.overflow_sub-t-2
overflow_sub-t-2 c = part_le c

pub overflow_mul-t-3 : goal.overflow_mul-t-3
overflow_mul-t-3 c = record { fits = omega (arith, u_lt c, p_most c, hi c) }

pub overflow_mul-p-2 : goal.overflow_mul-p-2
overflow_mul-p-2 c = record { fits = omega (arith, square_le c, p_most c) }

pub overflow_add-p-2 : goal.overflow_add-p-2
overflow_add-p-2 c = record { fits = omega (arith, square_le c, p_most c, hi c) }

pub overflow_add-result : goal.overflow_add-result
overflow_add-result c =
    let at = (goal.at.overflow_add-result c).After-near27-s in
    record { fits = omega (arith, hi at, p_most at) }

pub returns-then-t-p : goal.returns-then-t-p
returns-then-t-p c =
    let at = (goal.at.returns-then-t-p c).After-near27-s in
    subst (λ (m : ℕ). Nearest (m * 4503599627370496) (s at * 67108864 + p at + 1)) (n-is at)
    (last.goes_up 67108864 2 (s at) (rest at) (some at) c.if-t-p.true (omega (arith, u_lt at, enough (p at) (s at) (lo at) (split (p at) 25165824))))

pub returns-else-t-p : goal.returns-else-t-p
returns-else-t-p c =
    let at = (goal.at.returns-else-t-p c).After-near27-s in
    subst (λ (m : ℕ). Nearest (m * 4503599627370496) (s at * 67108864 + p at)) (n-is at)
    (last.stays 67108864 2 (s at) (rest at) (some at) c.if-t-p.false (omega (arith, last.u_ge 67108864 2 (s at) (rest at) (some at), square_le at, lo at)))
