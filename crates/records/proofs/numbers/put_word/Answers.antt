-- `records::numbers::put_word` meets its contract: its bytes are stored at once. Assumes nothing.
use Prim.Native.Nat.{◌+◌, ◌-◌}
use mathlib.Core.Path.{◌∙◌}
use native.Mathlib.Omega.{arith}
use Rattle.records.specs.Numbers.{four}
use Rattle.records.proofs.Stores.{stored_there}
use Rattle.records.proofs.numbers.put_word.Goals as goal

pub returns : goal.returns
unfolding four
returns c =
    stored_there c.args.out.now (four c.args.n) c.copy_from_slice.new.self c.args.at (c.args.at + 4 - c.args.at)
    (c.copy_from_slice.ensures.after ∙ c.to_le_bytes.ensures) (omega arith) (omega arith)
