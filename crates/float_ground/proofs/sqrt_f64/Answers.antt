-- `float_ground::sqrt_f64` meets its contract: each test tells which root x's pattern goes to, or that x has none or is its own. Assumes nothing.
use mathlib.Core.Path.{sym, subst}
use lib.Dec.{T}
use lib.Ieee.{binary64, fits}
use Rattle.float_ground.proofs.RootKinds.{normal_number, subnormal_number, normal_bits, subnormal_bits, of_pattern, no_root, itself}
use Rattle.float_ground.proofs.sqrt_f64.Goals as goal
use Rattle.float_ground.proofs.sqrt_f64.Goals.{Start}

held : (c : Start) → T (fits binary64 c.args.x)
held c = subst T (sym c.well_formed.0.1) tt

pub float_to_bits-x : goal.float_to_bits-x
float_to_bits-x c = normal_number binary64 c.args.x c.if-x.true

pub normal64-requires : goal.normal64-requires
normal64-requires c =
    let whole = normal_bits binary64 c.args.x (held (goal.at.normal64-requires c).Start) c.if-x.true in
    record { low = whole.0; high = whole.1 }

pub returns-then-x : goal.returns-then-x
returns-then-x c =
    let whole = of_pattern binary64 c.args.x c.normal64.result (held (goal.at.returns-then-x c).Start) c.normal64.ensures in
    record { equal = whole.0; nearest = whole.1 }

pub float_to_bits-x-then-x-2 : goal.float_to_bits-x-then-x-2
float_to_bits-x-then-x-2 c = subnormal_number binary64 c.args.x c.if-x-2.true

pub subnormal64-requires : goal.subnormal64-requires
subnormal64-requires c =
    let whole = subnormal_bits binary64 c.args.x (held (goal.at.subnormal64-requires c).Start) c.if-x-2.true in
    record { low = whole.0; high = whole.1 }

pub returns-then-x-2 : goal.returns-then-x-2
returns-then-x-2 c =
    let whole = of_pattern binary64 c.args.x c.subnormal64.result (held (goal.at.returns-then-x-2 c).Start) c.subnormal64.ensures in
    record { equal = whole.0; nearest = whole.1 }

pub returns-then-x-3 : goal.returns-then-x-3
returns-then-x-3 c =
    let whole = no_root binary64 c.args.x (held (goal.at.returns-then-x-3 c).Start) c.if-x-3.true in
    record { equal = whole.0; nearest = whole.1 }

pub returns : goal.returns
returns c =
    let whole = itself binary64 c.args.x (held (goal.at.returns c).Start) c.if-x.false c.if-x-2.false c.if-x-3.false in
    record { equal = whole.0; nearest = whole.1 }
