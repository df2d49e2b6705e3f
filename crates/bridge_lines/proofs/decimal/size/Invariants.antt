-- `decimal::size` meets its contract: the digits that are left make the same of the number at hand. Assumes nothing.
use Rattle.std.proofs.Common.{◌≡◌, ◌≤◌, min, drop}
use Rattle.bridge_lines.specs.Decimal.{size_of, size_after}
use Rattle.bridge_lines.proofs.decimal.size.Given as goal

abbrev pub invariant-loop-b : goal.invariant-loop-b
invariant-loop-b l = record {
  held : l.n ≤ 1000000000;
  left : min (size_after l.n (drop l.b-index l.w)) 1000000000 ≡ min (size_of l.w) 1000000000;
}
