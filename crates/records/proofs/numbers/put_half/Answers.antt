-- `records::numbers::put_half` meets its contract: its bytes are stored at once. Assumes nothing.
use Prim.Native.Nat.{◌+◌, ◌-◌}
use mathlib.Core.Path.{◌∙◌}
use native.Mathlib.Omega.{arith}
use Rattle.records.specs.Numbers.{two}
use Rattle.records.proofs.Stores.{stored_there}
use Rattle.records.proofs.numbers.put_half.Goals as goal

pub returns : goal.returns
unfolding two
returns c =
    stored_there c.args.out.now (two c.args.n) c.copy_from_slice.new.self c.args.at (c.args.at + 2 - c.args.at)
    (c.copy_from_slice.ensures.after ∙ c.to_le_bytes.ensures) (omega arith) (omega arith)
