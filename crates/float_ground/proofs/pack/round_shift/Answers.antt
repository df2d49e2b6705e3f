-- `float_ground::pack::round_shift` meets its contract: the sum fits 61 bits, and `shift_closest` says what it is. Assumes nothing.
use mathlib.Core.Path.{◌≡◌, subst}
use Prim.Native.Nat.{ℕ, suc, ◌+◌, ◌-◌, ◌*◌, ◌/◌, ◌%◌, ◌^◌, ◌<◌}
use native.Mathlib.Omega.{arith}
use lib.Pow.{pow_pos, pow-lt}
use lib.Ieee.Nearest.{closest}
use Rattle.float_laws.proofs.Rounding.{one_shl, shift_closest}
use Rattle.float_ground.proofs.pack.round_shift.Goals as goal
use Rattle.float_ground.proofs.pack.round_shift.Goals.{Start}

module _ (c : Start) where
  half : 1 * 2 ^ (c.args.t - 1) % 2 ^ 64 ≡ 2 ^ (c.args.t - 1)
  half = one_shl (c.args.t - 1) (omega arith)

  half_lt : 2 ^ (c.args.t - 1) < 2 ^ 55
  half_lt = let l : c.args.t - 1 < 55 = omega arith in pow-lt l

  next : suc (c.args.t - 1) ≡ c.args.t
  next = omega arith

pub overflow_sub-result-2 : goal.overflow_sub-result-2
overflow_sub-result-2 c = rw (half c) (pow_pos (c.args.t - 1))

pub overflow_add-result : goal.overflow_add-result
overflow_add-result c = omega (arith, half c, half_lt c)

pub overflow_add-result-2 : goal.overflow_add-result-2
overflow_add-result-2 c =
    let at = (goal.at.overflow_add-result-2 c).Start in
    omega (arith, half at, half_lt at, c.up_at_tie.ensures)

pub returns : goal.returns
returns c =
    let at = (goal.at.returns c).Start in
    let m = c.args.m in
    rw (half at, c.up_at_tie.ensures) (subst
    (λ (x : ℕ). (m + (2 ^ (c.args.t - 1) - 1) + m / 2 ^ x % 2) / 2 ^ x ≡ closest m (2 ^ x)) (next at) (shift_closest m (c.args.t - 1)))
