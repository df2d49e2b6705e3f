-- `whole_roots::steps::near27` meets its contract, by the laws of `Heron`. Assumes nothing.
use mathlib.Core.Path.{◌≡◌, ap, ◌∙◌, subst}
use Prim.Native.Nat.{ℕ, ◌+◌, ◌-◌, ◌*◌, ◌/◌, ◌%◌, ◌≤◌, ◌<◌}
use native.Mathlib.Omega.{arith}
use Rattle.whole_roots.proofs.Heron as heron
use Rattle.whole_roots.proofs.Only.{root_lt}
use Rattle.whole_roots.proofs.steps.near27.Goals as goal
use Rattle.whole_roots.proofs.steps.near27.Goals.{After-near-s}

-- r is near the root of m
abbrev Near : ℕ → ℕ → Type 0
Near m r = (67108864 ≤ r) × ((r * r ≤ m) × (m < r * r + 4 * r))

module _ (c : After-near-s) where
  abbrev n : ℕ
  n = c.args.n

  abbrev h : ℕ
  h = n / 4194304

  abbrev s : ℕ
  s = c.near-s.result

  abbrev rest : ℕ
  rest = h - s * s

  -- the next eleven digits, and the last eleven
  abbrev l1 : ℕ
  l1 = n % 4194304 / 2048

  abbrev l0 : ℕ
  l0 = n % 2048

  abbrev q : ℕ
  q = (rest * 2048 + l1) / (s + s + 11)

  lo : 32768 ≤ s
  lo = omega (arith, c.near-s.ensures.0)

  hi : s < 65536
  hi = let l : h < 65536 * 65536 = omega (arith, c.requires.high) in root_lt 65536 s h l c.near-s.ensures.1.0

  h-is : s * s + rest ≡ h
  h-is = omega (arith, c.near-s.ensures.1.0)

  few : rest < 20 * s + 1792
  few = omega (arith, h-is, c.near-s.ensures.1.1)

  l1-lt : l1 < 2048
  l1-lt = omega arith

  l0-lt : l0 < 2048
  l0-lt = omega arith

  some : 0 < s + s + 11
  some = omega arith

  q-le : q * (s + s + 11) ≤ rest * 2048 + l1
  q-le = heron.by_le (rest * 2048 + l1) (s + s) 11 some

  q-gt : rest * 2048 + l1 < q * (s + s + 11) + (s + s + 11)
  q-gt = heron.by_gt (rest * 2048 + l1) (s + s) 11 some

  q_most : q ≤ 22528
  q_most = heron.q_most s rest l1 l0 q lo few l1-lt l0-lt q-le q-gt

  n-is : (s * s + rest) * 4194304 + (l1 * 2048 + l0) ≡ n
  n-is = ap (λ (x : ℕ). x * 4194304 + (l1 * 2048 + l0)) h-is ∙ digits n
    where
      digits : (n : ℕ) → n / 4194304 * 4194304 + (n % 4194304 / 2048 * 2048 + n % 2048) ≡ n
      digits n = omega arith

  near : Near n (s * 2048 + q)
  near =
      let least : 67108864 ≤ s * 2048 + q = omega (arith, lo) in
      subst (λ (m : ℕ). Near m (s * 2048 + q)) n-is
      (least, (heron.at_most27 s rest l1 l0 q lo few l1-lt l0-lt q-le q-gt, heron.under27 s rest l1 l0 q lo few l1-lt l0-lt q-le q-gt))

pub overflow_mul-q-2 : goal.overflow_mul-q-2
overflow_mul-q-2 c = record { fits = omega (arith, few c, hi c) }

pub overflow_add-q : goal.overflow_add-q
overflow_add-q c = record { fits = omega (arith, few c, hi c, l1-lt c) }

pub overflow_add-q-2 : goal.overflow_add-q-2
overflow_add-q-2 c = record { fits = omega (arith, hi c) }

pub overflow_add-q-3 : goal.overflow_add-q-3
overflow_add-q-3 c = record { fits = omega (arith, hi c) }

pub overflow_mul-result : goal.overflow_mul-result
overflow_mul-result c = record { fits = omega (arith, hi c) }

pub overflow_add-result : goal.overflow_add-result
overflow_add-result c = record { fits = omega (arith, hi c, q_most c) }

pub overflow_cast-result : goal.overflow_cast-result
overflow_cast-result c = record { fits = omega (arith, hi c, q_most c) }

pub returns : goal.returns
returns c = near c
