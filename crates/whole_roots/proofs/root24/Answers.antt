-- `whole_roots::root24` meets its contract: there is one nearest whole number. Assumes nothing.
use Prim.Native.Nat.{ℕ, ◌*◌, ◌^◌, ◌≤◌, ◌<◌}
use native.Mathlib.Omega.{arith}
use lib.Dec.{lit<}
use Rattle.whole_roots.specs.Table.{radicand}
use Rattle.whole_roots.proofs.Only.{nearest_is}
use Rattle.whole_roots.proofs.Radicand.{radicand_in}
use Rattle.whole_roots.proofs.root24.Goals as goal

of-n : (g t : ℕ) → (2 ^ 30 ≤ radicand 31 g t) × (radicand 31 g t < 2 ^ 32)
of-n g t = radicand_in (2 ^ 30) g t (lit< tt)

pub nearest24-requires : goal.nearest24-requires
nearest24-requires c =
    let whole = of-n c.args.g c.args.t in
    record { low = whole.0; high = whole.1 }

pub returns : goal.returns
returns c =
    let g = c.args.g in
    let t = c.args.t in
    let some : 0 < radicand 31 g t * 2 ^ 16 = omega (arith, (of-n g t).0) in
    nearest_is (radicand 31 g t * 2 ^ 16) c.nearest24.result some c.nearest24.ensures
