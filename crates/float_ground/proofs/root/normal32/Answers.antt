-- `float_ground::root::normal32` meets its contract: its digits stand in the form that `Shifted` has. Assumes nothing.
use mathlib.Core.Path.{◌≡◌}
use Prim.Native.Nat.{◌+◌, ◌-◌, ◌*◌, ◌/◌, ◌%◌, ◌^◌}
use native.Mathlib.Omega.{arith}
use lib.Ieee.{binary32, low, hid, of_bits}
use Rattle.float_ground.specs.Parts.{wide, zeros}
use Rattle.float_ground.proofs.Shifted.{value_by, normal_value}
use Rattle.float_ground.proofs.root.normal32.Goals as goal

pub returns : goal.returns
returns c =
    let b = c.args.b in
    let field = b / hid binary32 in
    let t = b * 2 ^ 8 % 2 ^ 32 in
    let digits : t % 2 ^ wide binary32 + 2 ^ wide binary32 ≡ (b % hid binary32 + hid binary32) * 2 ^ 8 = omega arith in
    let sum : field - 1 + (low binary32 + low binary32 + 1 - zeros binary32) ≡ 8 + (field + 125) + low binary32 = omega (arith, c.requires.low) in
    c.root32.ensures (of_bits binary32 b) (value_by binary32 (of_bits binary32 b) (b % hid binary32 + hid binary32) (field - 1) 8 (field + 125) t
    (normal_value binary32 b c.requires.low c.requires.high) digits sum)
