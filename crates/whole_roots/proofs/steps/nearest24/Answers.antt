-- `whole_roots::steps::nearest24` meets its contract, by the laws of `Last`. Assumes nothing.
use mathlib.Core.Path.{◌≡◌, subst}
use Prim.Native.Nat.{ℕ, ◌+◌, ◌-◌, ◌*◌, ◌≤◌, ◌<◌}
use native.Mathlib.Nat.{mul-le-mul_right}
use native.Mathlib.Omega.{arith}
use Rattle.whole_roots.specs.Table.{Nearest}
use Rattle.whole_roots.proofs.Last as last
use Rattle.whole_roots.proofs.Only.{root_lt}
use Rattle.whole_roots.proofs.steps.nearest24.Goals as goal
use Rattle.whole_roots.proofs.steps.nearest24.Goals.{After-near-s}

module _ (c : After-near-s) where
  abbrev n : ℕ
  n = c.args.n

  abbrev s : ℕ
  s = c.near-s.result

  abbrev rest : ℕ
  rest = n - s * s

  lo : 32768 ≤ s
  lo = omega (arith, c.near-s.ensures.0)

  hi : s < 65536
  hi = let l : n < 65536 * 65536 = omega (arith, c.requires.high) in root_lt 65536 s n l c.near-s.ensures.1.0

  n-is : s * s + rest ≡ n
  n-is = omega (arith, c.near-s.ensures.1.0)

  few : rest < 20 * s + 1792
  few = omega (arith, n-is, c.near-s.ensures.1.1)

  some : 0 < s + s + 11
  some = omega arith

  abbrev p : ℕ
  p = last.p 256 11 s rest some

  p_most : p ≤ 2816
  p_most = let l : rest * 256 < 2817 * (s + s + 11) = omega (arith, few, lo) in last.p_most 256 11 s rest some 2816 l

  square_le : p * p ≤ 2816 * p
  square_le = mul-le-mul_right p p_most

  part_le : p * (s + s) ≤ rest * 256
  part_le = last.ps_le 256 11 s rest some

  u_lt : last.u 256 11 s rest some < s + s + 11 + 11 * p
  u_lt = last.u_lt 256 11 s rest some

pub overflow_add-d : goal.overflow_add-d
overflow_add-d c = record { fits = omega (arith, hi c) }

pub overflow_mul-t-2 : goal.overflow_mul-t-2
overflow_mul-t-2 c = record { fits = omega (arith, few c, hi c) }

pub overflow_add-p : goal.overflow_add-p
overflow_add-p c = record { fits = omega (arith, hi c) }

pub overflow_mul-r : goal.overflow_mul-r
overflow_mul-r c = record { fits = omega (arith, hi c) }

pub overflow_add-r : goal.overflow_add-r
overflow_add-r c = record { fits = omega (arith, hi c, p_most c) }

pub overflow_mul-p : goal.overflow_mul-p
overflow_mul-p c = record { fits = omega (arith, part_le c, few c, hi c) }

pub overflow_sub-t-2 : goal.overflow_sub-t-2
overflow_sub-t-2 c = part_le c

pub overflow_mul-t-3 : goal.overflow_mul-t-3
overflow_mul-t-3 c = record { fits = omega (arith, u_lt c, p_most c, hi c) }

pub overflow_mul-p-2 : goal.overflow_mul-p-2
overflow_mul-p-2 c = record { fits = omega (arith, square_le c, p_most c) }

pub overflow_add-p-2 : goal.overflow_add-p-2
overflow_add-p-2 c = record { fits = omega (arith, square_le c, p_most c, hi c) }

pub overflow_add-result : goal.overflow_add-result
overflow_add-result c =
    let at = (goal.at.overflow_add-result c).After-near-s in
    record { fits = omega (arith, hi at, p_most at) }

pub returns-then-t-p : goal.returns-then-t-p
returns-then-t-p c =
    let at = (goal.at.returns-then-t-p c).After-near-s in
    subst (λ (m : ℕ). Nearest (m * 65536) (s at * 256 + p at + 1)) (n-is at)
    (last.goes_up 256 11 (s at) (rest at) (some at) c.if-t-p.true (omega (arith, u_lt at, p_most at, lo at)))

pub returns-else-t-p : goal.returns-else-t-p
returns-else-t-p c =
    let at = (goal.at.returns-else-t-p c).After-near-s in
    subst (λ (m : ℕ). Nearest (m * 65536) (s at * 256 + p at)) (n-is at)
    (last.stays 256 11 (s at) (rest at) (some at) c.if-t-p.false (omega (arith, last.u_ge 256 11 (s at) (rest at) (some at), square_le at, lo at)))
