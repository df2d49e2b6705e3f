-- `mapping::map_numbers` meets its contract. The loop's invariant: with the pairs from i on mapped too, the buffer is what it has to
-- be. Assumes nothing.
use mathlib.Core.Path.{◌≡◌}
use Prim.Native.Nat.{◌*◌}
use Rattle.transform.specs.Mapped.{map_point}
use Rattle.mapping.proofs.Pairs.{map_pairs, map_from}
use Rattle.mapping.proofs.map_numbers.Given as goal

abbrev pub invariant-loop-i : goal.invariant-loop-i
invariant-loop-i l = map_from (map_point l.ts) (2 * l.i) l.numbers ≡ map_pairs (map_point l.ts) l.initial.numbers
