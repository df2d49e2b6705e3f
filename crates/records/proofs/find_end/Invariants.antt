-- `records::find_end` meets its contract. The invariant: what is read from `at` on ends where all ends. The measure is what is
-- left. Assumes nothing.
use mathlib.Core.Path.{◌≡◌}
use Prim.Native.Nat.{◌-◌}
use lib.ListN.{length}
use Rattle.records.specs.Reading.{ended_by, read_from, end_of}
use Rattle.records.proofs.find_end.Given as goal

abbrev pub invariant-loop-next : goal.invariant-loop-next
invariant-loop-next l = ended_by (read_from l.journal l.at) ≡ end_of l.journal

abbrev pub decreases-loop-next : goal.decreases-loop-next
decreases-loop-next l = length l.journal - l.at
