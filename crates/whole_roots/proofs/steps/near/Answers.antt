-- `whole_roots::steps::near` meets its contract, by the laws of `Heron`. Assumes nothing.
use mathlib.Core.Path.{◌≡◌}
use Prim.Native.Nat.{ℕ, ◌+◌, ◌-◌, ◌*◌, ◌/◌, ◌^◌, ◌≤◌, ◌<◌}
use native.Mathlib.Omega.{arith}
use Rattle.whole_roots.proofs.Heron as heron
use Rattle.whole_roots.proofs.steps.near.Goals as goal
use Rattle.whole_roots.proofs.steps.near.Goals.{After-entry-x}

-- the numbers of the code, in the order in which it finds them
module _ (c : After-entry-x) where
  abbrev n : ℕ
  n = c.args.n

  abbrev x : ℕ
  x = c.entry-x.result * 8

  abbrev d : ℕ
  d = n - x * x

  abbrev y : ℕ
  y = 98304 - x

  abbrev e : ℕ
  e = d / 2048

  abbrev q : ℕ
  q = e * (7 * y) / 16777216

  x-ge : 32768 ≤ x
  x-ge = omega (arith, heron.a_ge n c.entry-x.result c.requires.low c.requires.high c.entry-x.ensures)

  x-le : x ≤ 65528
  x-le = omega (arith, heron.a_lt n c.entry-x.result c.requires.low c.requires.high c.entry-x.ensures)

  square_le : x * x ≤ n
  square_le = heron.square_le n c.entry-x.result c.requires.low c.requires.high c.entry-x.ensures

  d-is : x * x + d ≡ n
  d-is = omega (arith, square_le)

  left : d < 16 * x + 4194304
  left = omega (arith, d-is, heron.left_lt n c.entry-x.result c.requires.low c.requires.high c.entry-x.ensures)

  of-y : (2147483648 ≤ x * y) × (x * y ≤ 2415919104)
  of-y = let sum : x + y ≡ 98304 = omega (arith, x-le) in let most : x ≤ 65536 = omega (arith, x-le) in heron.product_of x y sum x-ge most

  e-le : e * 2048 ≤ d
  e-le = omega arith

  e-gt : d < e * 2048 + 2048
  e-gt = omega arith

  q-le : q * 16777216 ≤ e * (7 * y)
  q-le = omega arith

  q-gt : e * (7 * y) < q * 16777216 + 16777216
  q-gt = omega arith

  fits : e * (7 * y) < 2 ^ 32
  fits = heron.fits x d y e q x-ge left of-y.0 of-y.1 e-le e-gt q-le q-gt

  q_lt : q < 71
  q_lt = heron.q_lt x d y e q x-ge left of-y.0 of-y.1 e-le e-gt q-le q-gt

  step_le : 2 * (x * q) + q * q ≤ d
  step_le = heron.step_le x d y e q x-ge left of-y.0 of-y.1 e-le e-gt q-le q-gt

  rest_lt : d < 2 * (x * q) + 20 * x + 1792
  rest_lt = heron.rest_lt x d y e q x-ge left of-y.0 of-y.1 e-le e-gt q-le q-gt

pub overflow_mul-x : goal.overflow_mul-x
overflow_mul-x c = record { fits = omega (arith, x-le c) }

pub overflow_mul-result : goal.overflow_mul-result
overflow_mul-result c = record { fits = omega (arith, square_le c) }

pub overflow_sub-result : goal.overflow_sub-result
overflow_sub-result c = square_le c

pub overflow_sub-result-2 : goal.overflow_sub-result-2
overflow_sub-result-2 c = omega (arith, x-le c)

pub overflow_mul-result-3 : goal.overflow_mul-result-3
overflow_mul-result-3 c = record { fits = fits c }

pub overflow_add-result : goal.overflow_add-result
overflow_add-result c = record { fits = omega (arith, x-le c, q_lt c) }

-- of any numbers like these
near-enough : (n x d q : ℕ) → x * x + d ≡ n → 32768 ≤ x → 2 * (x * q) + q * q ≤ d → d < 2 * (x * q) + 20 * x + 1792 →
    (2 ^ 15 ≤ x + q) × (((x + q) * (x + q) ≤ n) × (n < (x + q) * (x + q) + 20 * (x + q) + 1792))
near-enough n x d q d-is lo a b = (omega arith, (omega (arith, d-is, a), omega (arith, d-is, b)))

pub returns : goal.returns
returns c = near-enough (n c) (x c) (d c) (q c) (d-is c) (x-ge c) (step_le c) (rest_lt c)
