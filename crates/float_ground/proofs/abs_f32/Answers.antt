-- `float_ground::abs_f32` meets its contract: the pattern without its sign. Assumes nothing.
use mathlib.Core.Path.{◌≡◌, sym, ap, ◌∙◌, subst, refl}
use Prim.Native.Nat.{◌%◌, ◌^◌}
use lib.Dec.{T}
use lib.Ieee.{Float, nan, binary32, fits, to_bits}
use lib.Ieee.Compare.{differs_from_itself}
use lib.Ieee.Bits.{of_bits-to_bits}
use Rattle.float_laws.specs.Absolute.{abs_of}
use Rattle.float_laws.proofs.Patterns.{plain-bits, plain_small}
use Rattle.float_laws.proofs.Sign.{equals_itself}
use Rattle.float_laws.proofs.Sign.{abs_bits}
use Rattle.float_ground.proofs.abs_f32.Goals as goal
use Rattle.float_ground.proofs.abs_f32.Goals.{Start}

held : (c : Start) → T (fits binary32 c.args.x)
held c = subst T (sym c.well_formed.0.1) tt

of_nan : (x : Float) → x ≡ nan → x ≡ abs_of x
unfolding abs_of
of_nan x e = rw e refl

pub returns-then-x : goal.returns-then-x
returns-then-x c = of_nan c.args.x (differs_from_itself c.args.x (subst T (sym c.if-x.true) tt))

pub float_to_bits-result : goal.float_to_bits-result
float_to_bits-result c = equals_itself c.args.x c.if-x.false

pub float_from_bits-result : goal.float_from_bits-result
float_from_bits-result c =
    let x = c.args.x in
    plain_small binary32 (to_bits binary32 x % 2 ^ 31) (plain-bits binary32 x (held (goal.at.float_from_bits-result c).Start) (equals_itself x c.if-x.false))

pub returns : goal.returns
returns c =
    let x = c.args.x in
    abs_bits binary32 (to_bits binary32 x) ∙ ap abs_of (of_bits-to_bits binary32 x (held (goal.at.returns c).Start))
