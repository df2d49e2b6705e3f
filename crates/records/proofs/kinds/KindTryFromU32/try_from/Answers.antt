-- `Kind::try_from` meets its contract: a number that is none of the three has no words. Assumes nothing.
use native.Mathlib.Omega.{arith}
use mathlib.Core.Path.{refl, sym}
use Rattle.records.proofs.Counts.{none}
use Rattle.records.proofs.kinds.KindTryFromU32.try_from.Goals as goal

pub returns-in_default : goal.returns-in_default
returns-in_default c = (refl, sym (none c.args.number (λ z. omega arith) (λ z. omega arith) (λ z. omega arith)))
