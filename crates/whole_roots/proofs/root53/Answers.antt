-- `whole_roots::root53` meets its contract: there is one nearest whole number. Assumes nothing.
use Prim.Native.Nat.{ℕ, ◌*◌, ◌^◌, ◌≤◌, ◌<◌}
use native.Mathlib.Omega.{arith}
use lib.Dec.{lit<}
use Rattle.whole_roots.specs.Table.{radicand}
use Rattle.whole_roots.proofs.Only.{nearest_is}
use Rattle.whole_roots.proofs.Radicand.{radicand_in}
use Rattle.whole_roots.proofs.root53.Goals as goal

of-n : (g t : ℕ) → (2 ^ 52 ≤ radicand 53 g t) × (radicand 53 g t < 2 ^ 54)
of-n g t = radicand_in (2 ^ 52) g t (lit< tt)

pub nearest53-requires : goal.nearest53-requires
nearest53-requires c =
    let whole = of-n c.args.g c.args.t in
    record { low = whole.0; high = whole.1 }

pub returns : goal.returns
returns c =
    let g = c.args.g in
    let t = c.args.t in
    let some : 0 < radicand 53 g t * 2 ^ 52 = omega (arith, (of-n g t).0) in
    nearest_is (radicand 53 g t * 2 ^ 52) c.nearest53.result some c.nearest53.ensures
