-- `float_ground::root::subnormal32` meets its contract: the leading zeros give the shift. Assumes nothing.
use mathlib.Core.Path.{◌≡◌, refl}
use Prim.Native.Nat.{◌-◌}
use native.Mathlib.Omega.{arith}
use lib.Count.{count_leading_zeros}
use lib.Ieee.{binary32, of_bits}
use Rattle.float_ground.proofs.Shifted.{Brought, subnormal_by}
use Rattle.float_ground.proofs.root.subnormal32.Goals as goal
use Rattle.float_ground.proofs.root.subnormal32.Goals.{Start}

by : (c : Start) → Brought binary32 32 0 c.args.b (count_leading_zeros 32 c.args.b)
by c = subnormal_by binary32 32 0 c.args.b _ refl (let is : count_leading_zeros 32 c.args.b ≡ count_leading_zeros 32 c.args.b - 0 = omega arith in is) c.requires.low c.requires.high

pub overflow_sub-z : goal.overflow_sub-z
overflow_sub-z c = omega (arith, (by c).few)

pub overflow_shl-b : goal.overflow_shl-b
overflow_shl-b c = omega (arith, (by c).few)

pub root32-requires : goal.root32-requires
root32-requires c = record { exponent = omega arith; even = (by c).even }

pub returns : goal.returns
returns c = c.root32.ensures (of_bits binary32 c.args.b) (by (goal.at.returns c).Start).value
