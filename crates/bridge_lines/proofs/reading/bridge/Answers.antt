-- `reading::bridge` meets its contract: each number is that of its word, and the level is not held. Assumes nothing.
use Rattle.std.proofs.Common.{◌≡◌, ℕ, ◌<◌, List, arith, lit<}
use Rattle.bridge_lines.specs.Decimal.{size_of}
use Rattle.bridge_lines.proofs.Sizes.{ranged}
use Rattle.bridge_lines.proofs.reading.bridge.Goals as goal

pub value-requires : goal.value-requires
value-requires c = c.requires 0 (lit< tt)

pub value-requires-2 : goal.value-requires-2
value-requires-2 c = c.requires 1 (lit< tt)

pub value-requires-3 : goal.value-requires-3
value-requires-3 c = c.requires 2 (lit< tt)

pub value-requires-4 : goal.value-requires-4
value-requires-4 c = c.requires 3 (lit< tt)

pub value-requires-5 : goal.value-requires-5
value-requires-5 c = c.requires 4 (lit< tt)

pub value-requires-6 : goal.value-requires-6
value-requires-6 c = c.requires 5 (lit< tt)

pub value-requires-7 : goal.value-requires-7
value-requires-7 c = c.requires 6 (lit< tt)

pub returns : goal.returns
returns c =
    let w : List ℕ = c.word.result.now in
    let r : size_of w < 1000000000 = (ranged 8 w (rw c.word.ensures (c.requires 7 (lit< tt)))).0 in
    let e : c.size.result ≡ size_of w = omega arith in
    rw (
      c.value.ensures,
      c.value-2.ensures,
      c.value-3.ensures,
      c.value-4.ensures,
      c.value-5.ensures,
      c.value-6.ensures,
      c.value-7.ensures,
      e,
      c.word.ensures,
    )
