-- `float_ground::root::subnormal64` meets its contract: the leading zeros give the shift. Assumes nothing.
use mathlib.Core.Path.{refl}
use Prim.Native.Nat.{◌-◌}
use native.Mathlib.Omega.{arith}
use lib.Count.{count_leading_zeros}
use lib.Ieee.{binary64, of_bits}
use Rattle.float_ground.proofs.Shifted.{Brought, subnormal_by}
use Rattle.float_ground.proofs.root.subnormal64.Goals as goal
use Rattle.float_ground.proofs.root.subnormal64.Goals.{Start}

by : (c : Start) → Brought binary64 64 10 c.args.b (count_leading_zeros 64 c.args.b - 10)
by c = subnormal_by binary64 64 10 c.args.b _ refl refl c.requires.low c.requires.high

pub overflow_sub-z : goal.overflow_sub-z
overflow_sub-z c = omega (arith, (by c).some)

pub overflow_cast-z : goal.overflow_cast-z
overflow_cast-z c = record { fits = omega (arith, (by c).few) }

pub overflow_sub-z-2 : goal.overflow_sub-z-2
overflow_sub-z-2 c = omega (arith, (by c).few)

pub overflow_shl-b : goal.overflow_shl-b
overflow_shl-b c = omega (arith, (by c).few)

pub root64-requires : goal.root64-requires
root64-requires c = record { exponent = omega arith; even = (by c).even }

pub returns : goal.returns
returns c = c.root64.ensures (of_bits binary64 c.args.b) (by (goal.at.returns c).Start).value
