-- `float_ground::pack::narrowed` meets its contract: the tests tell which law of `Narrower` holds. Assumes nothing.
use mathlib.Core.Path.{sym, subst}
use Prim.Native.Nat.{ℕ}
use native.Mathlib.Omega.{arith}
use Rattle.float_ground.specs.Parts.{NarrowedTo}
use Rattle.float_ground.proofs.Narrower.{normal, over}
use Rattle.float_ground.proofs.pack.narrowed.Goals as goal

pub returns-then-field-ge1151 : goal.returns-then-field-ge1151
returns-then-field-ge1151 c = over c.args.t (omega arith) (omega arith)

pub returns : goal.returns
returns c =
    let t = c.args.t in
    subst (λ (r : ℕ). NarrowedTo t r) (sym c.round_shift.ensures) (normal t (omega arith) (omega arith))

pub returns-then-field-lt897 : goal.returns-then-field-lt897
returns-then-field-lt897 c = c.small.ensures
