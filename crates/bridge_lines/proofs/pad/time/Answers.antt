-- `pad::time` meets its contract: the number is ten times that of the digits before the last, and the last. Assumes nothing.
use Rattle.std.proofs.Common.{◌≡◌, ℕ, ◌-◌, min, List, length, take, arith}
use Rattle.bridge_lines.specs.Decimal.{size_of}
use Rattle.bridge_lines.proofs.Pads.{some, not_below, by_last}
use Rattle.bridge_lines.proofs.pad.time.Goals as goal

pub overflow_sub-last : goal.overflow_sub-last
overflow_sub-last c = some c.args.w.now c.requires

pub bounds-w-last : goal.bounds-w-last
bounds-w-last c = omega (arith, some c.args.w.now c.requires)

pub overflow_sub-result : goal.overflow_sub-result
overflow_sub-result c = omega (arith, not_below c.args.w.now c.requires)

pub overflow_cast-result-2 : goal.overflow_cast-result-2
overflow_cast-result-2 c = omega (arith, c.type_inv.w (length c.args.w.now - 1))

pub overflow_add-result : goal.overflow_add-result
overflow_add-result c = omega (arith, c.type_inv.w (length c.args.w.now - 1))

pub returns : goal.returns
returns c =
    let w : List ℕ = c.args.w.now in
    let z : length w - 1 - 0 ≡ length w - 1 = omega arith in
    let e : c.size.result ≡ min (size_of (take (length w - 1 - 0) w)) 1000000000 = c.size.ensures in
    omega (arith, rw z at e, by_last w c.requires)
