-- `subdivide` meets its contract: the level falls at each call of itself, a chop that needs a correction is cut in full, and `Stores` says
-- what two cuts leave. Assumes nothing.
use Prim.Native.Nat.{ℕ, ◌-◌, ◌≤◌}
use mathlib.Core.List.{List}
use mathlib.Core.Bool.{true}
use mathlib.Core.Path.{◌≡◌}
use native.Mathlib.Omega.{arith}
use lib.Ieee.{Float}
use Rattle.conic.specs.declared.Conic.{Conic}
use Rattle.conic.specs.declared.Halves.{Halves}
use Rattle.conic.specs.declared.chopping.Lines.{Lines}
use Rattle.conic.specs.declared.depth.Depth.{Depth}
use Rattle.conic.specs.Chop.{chop_by_rule, plain_lines, whole_middle, settled_lines, halves_at}
use Rattle.conic_cut.specs.Ladder.{rung_at, Rungs}
use Rattle.conic_cut.proofs.Ladder.{Halved, halved_plain}
use Rattle.conic_cut.proofs.Stores.{pow_more, stored_joined, stored_more}
use Rattle.conic_cut.proofs.subdividing.+subdivide.Goals as goal

some : (n : ℕ) → 2 ≤ n → n ≡ 0 → ⊥
some n h z = omega arith

deeper : (n : ℕ) → 2 ≤ n → (n - 1 ≡ 1 → ⊥) → 2 ≤ n - 1
deeper n h k = omega arith

-- what the plain chop gave is cut further as the rule's own halves are
step : (n : ℕ) (l : List Float) (c : Conic) (d : Depth) (k : Lines) (h : Halves) → 2 ≤ n → Rungs l n c.weight → d ≡ rung_at l n
    → k ≡ plain_lines d.scale c → whole_middle k ≡ true → settled_lines c k ≡ true → h ≡ halves_at d.weight c k → Halved (n - 1) l c h
step n l c d k h two r ed ek w s eh = halved_plain n l c d k h (omega arith) r ed ek w s eh

pub put_last-requires-clause-first_half : goal.put_last-requires-clause-first_half
put_last-requires-clause-first_half t c =
    let a = c.args in
    let s = c.requires.1 in
    let h = c.halves-h.result in
    let same = step a.level a.rungs.now a.c _ _ h s.0 s.1.1 c.rung-d.ensures c.plain_lines-l.ensures (cc) (cc) c.halves-h.ensures in
    rw (c.if-less-eq1.true) at same.first_rungs

pub put_last-requires-clause-second_half : goal.put_last-requires-clause-second_half
put_last-requires-clause-second_half t c =
    let a = c.args in
    let s = c.requires.1 in
    let h = c.halves-h.result in
    let same = step a.level a.rungs.now a.c _ _ h s.0 s.1.1 c.rung-d.ensures c.plain_lines-l.ensures (cc) (cc) c.halves-h.ensures in
    rw (c.if-less-eq1.true) at same.second_rungs

pub returns-then-less-eq1 : goal.returns-then-less-eq1
returns-then-less-eq1 t c =
    let a = c.args in
    let s = c.requires.1 in
    let h = c.halves-h.result in
    let same = step a.level a.rungs.now a.c _ _ h s.0 s.1.1 c.rung-d.ensures c.plain_lines-l.ensures (cc) (cc) c.halves-h.ensures in
    let last = c.put_last in
    stored_joined chop_by_rule a.level a.c h.first h.second a.out.now last.new.out a.at last.result
    (some a.level s.0) same.first same.second (rw c.if-less-eq1.true last.ensures)

pub subdivide-next-requires : goal.subdivide-next-requires
subdivide-next-requires t c =
    let a = c.args in
    let s = c.requires.1 in
    let h = c.halves-h.result in
    let same = step a.level a.rungs.now a.c _ _ h s.0 s.1.1 c.rung-d.ensures c.plain_lines-l.ensures (cc) (cc) c.halves-h.ensures in (
      omega (arith, c.decreases, s.0),
      (
        omega (arith, c.requires.0, pow_more a.level (some a.level s.0)),
        (deeper a.level s.0 c.if-less-eq1.false, (omega (arith, s.1.0), same.first_rungs)),
      ),
    )

pub subdivide-requires : goal.subdivide-requires
subdivide-requires t c =
    let a = c.args in
    let s = c.requires.1 in
    let h = c.halves-h.result in
    let same = step a.level a.rungs.now a.c _ _ h s.0 s.1.1 c.rung-d.ensures c.plain_lines-l.ensures (cc) (cc) c.halves-h.ensures in
    let first = c.subdivide-next in (
      omega (arith, c.decreases, s.0),
      (
        omega (arith, c.requires.0, pow_more a.level (some a.level s.0), first.ensures.0, first.auto.out),
        (deeper a.level s.0 c.if-less-eq1.false, (omega (arith, s.1.0), same.second_rungs)),
      ),
    )

pub returns : goal.returns
returns t c =
    let a = c.args in
    let s = c.requires.1 in
    let h = c.halves-h.result in
    let same = step a.level a.rungs.now a.c _ _ h s.0 s.1.1 c.rung-d.ensures c.plain_lines-l.ensures (cc) (cc) c.halves-h.ensures in
    let first = c.subdivide-next in
    let second = c.subdivide in
    stored_more chop_by_rule a.level a.c h.first h.second a.out.now first.new.out second.new.out
    a.at first.result second.result (some a.level s.0) same.first same.second first.ensures second.ensures
