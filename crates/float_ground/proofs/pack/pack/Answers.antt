-- `float_ground::pack::pack` meets its contract: each way is a law of `Packing`. Assumes nothing.
use mathlib.Core.Path.{refl, sym, subst}
use Prim.Native.Nat.{ℕ, ◌+◌, ◌-◌, ◌*◌}
use lib.Ieee.{binary32, hid}
use Rattle.float_ground.specs.Parts.{Packed}
use Rattle.float_ground.proofs.Packing.{normal, subnormal, nothing, over}
use Rattle.float_ground.proofs.pack.pack.Goals as goal

pub returns-then-t-gt55 : goal.returns-then-t-gt55
returns-then-t-gt55 c = nothing binary32 c.args.n c.requires _ c.if-n.true refl c.if-t-gt55.true

pub returns-then-n : goal.returns-then-n
returns-then-n c =
    let n = c.args.n in
    subst (Packed binary32 n) (sym c.round_shift.ensures) (subnormal binary32 n c.requires _ c.if-n.true refl)

pub returns-then-k-ge255 : goal.returns-then-k-ge255
returns-then-k-ge255 c = over binary32 c.args.n c.requires c.if-n.false c.if-k-ge255.true

pub returns : goal.returns
returns c =
    let n = c.args.n in
    let P = λ (r : ℕ). Packed binary32 n ((n.exponent - 948) * hid binary32 + r) in
    subst P (sym c.round_shift-2.ensures) (normal binary32 n c.requires c.if-n.false c.if-k-ge255.false)
