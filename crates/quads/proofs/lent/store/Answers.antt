-- `quads::lent::store` meets its contract: what is copied stands in front of the rest. Assumes nothing.
use Rattle.std.proofs.Common.{arith}
use Rattle.std.proofs.lemmas.Grind.{common_steps}
use Rattle.std.proofs.lemmas.List.Edits.{sets-eq}
use Rattle.quads.proofs.lent.store.Goals as goal

pub returns-clause-buffer : goal.returns-clause-buffer
returns-clause-buffer c =
    let whole = sets-eq c.args.new.now c.args.dst.now 0 (omega arith) in
    grind (arith, common_steps, whole)
