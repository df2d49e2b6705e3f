-- `float_ground::root::normal64` meets its contract: its digits stand in the form that `Shifted` has. Assumes nothing.
use mathlib.Core.Path.{◌≡◌}
use Prim.Native.Nat.{◌+◌, ◌-◌, ◌*◌, ◌/◌, ◌%◌, ◌^◌}
use native.Mathlib.Omega.{arith}
use lib.Ieee.{binary64, low, hid, of_bits}
use Rattle.float_ground.specs.Parts.{wide, zeros}
use Rattle.float_ground.proofs.Shifted.{value_by, normal_value}
use Rattle.float_ground.proofs.root.normal64.Goals as goal

pub returns : goal.returns
returns c =
    let b = c.args.b in
    let field = b / hid binary64 in
    let t = b * 2 ^ 1 % 2 ^ 64 in
    let digits : t % 2 ^ wide binary64 + 2 ^ wide binary64 ≡ (b % hid binary64 + hid binary64) * 2 ^ 1 = omega arith in
    let sum : field - 1 + (low binary64 + low binary64 + 1 - zeros binary64) ≡ 1 + (field + 1021) + low binary64 = omega (arith, c.requires.low) in
    c.root64.ensures (of_bits binary64 b) (value_by binary64 (of_bits binary64 b) (b % hid binary64 + hid binary64) (field - 1) 1 (field + 1021) t
    (normal_value binary64 b c.requires.low c.requires.high) digits sum)
