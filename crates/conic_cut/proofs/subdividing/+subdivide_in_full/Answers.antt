-- `subdivide_in_full` meets its contract: the level falls at each call of itself, and `Stores` says what one store, or two cuts, leave.
-- Assumes nothing.
use Prim.Native.Nat.{ℕ, ◌-◌, ◌≤◌}
use mathlib.Core.List.{List}
use mathlib.Core.Path.{◌≡◌, refl, ◌∙◌}
use native.Mathlib.Nat.{pos_of_ne-zero}
use native.Mathlib.Omega.{arith}
use lib.Ieee.{Float}
use Rattle.conic.specs.declared.Conic.{Conic}
use Rattle.conic.specs.declared.Halves.{Halves}
use Rattle.conic.specs.declared.depth.Depth.{Depth}
use Rattle.conic.specs.Chop.{chop_by_rule, chop_at}
use Rattle.conic_cut.specs.Ladder.{rung_at, Rungs}
use Rattle.conic_cut.proofs.Ladder.{Halved, halved}
use Rattle.conic_cut.proofs.Stores.{pow_more, stored_halves, stored_more}
use Rattle.conic_cut.proofs.subdividing.+subdivide_in_full.Goals as goal

last : (n : ℕ) → 1 ≤ n → n - 1 ≡ 0 → n ≡ 1
last n h e = omega arith

-- what the chop gave is cut further as the rule's own halves are
step : (n : ℕ) (l : List Float) (c k : Conic) (d : Depth) (h : Halves) → 1 ≤ n → Rungs l n c.weight → d ≡ rung_at l n → k ≡ c → h ≡ chop_at d k
    → Halved (n - 1) l c h
step n l c k d h one r e f g = halved n l c h one r (g ∙ rw (e, f) refl)

pub returns-then-less-eq0 : goal.returns-then-less-eq0
returns-then-less-eq0 t c =
    let a = c.args in
    let s = c.requires.1 in
    let same = step a.level a.rungs.now _ _ _ c.chop-h.result s.0 s.1.1 c.rung.ensures c.new.ensures c.chop-h.ensures in
    stored_halves chop_by_rule a.level _ c.chop-h.result a.out.now c.put_halves.new.out a.at c.put_halves.result
    (last a.level s.0 c.if-less-eq0.true) same.first same.second c.put_halves.ensures

pub subdivide_in_full-next-requires : goal.subdivide_in_full-next-requires
subdivide_in_full-next-requires t c =
    let a = c.args in
    let s = c.requires.1 in
    let same = step a.level a.rungs.now _ _ _ c.chop-h.result s.0 s.1.1 c.rung.ensures c.new.ensures c.chop-h.ensures in (
      omega (arith, c.decreases, s.0),
      (
        omega (arith, c.requires.0, pow_more a.level (λ z. omega (arith, z, s.0))),
        (pos_of_ne-zero c.if-less-eq0.false, (omega (arith, s.1.0), same.first_rungs)),
      ),
    )

pub subdivide_in_full-requires : goal.subdivide_in_full-requires
subdivide_in_full-requires t c =
    let a = c.args in
    let s = c.requires.1 in
    let first = c.subdivide_in_full-next in
    let same = step a.level a.rungs.now _ _ _ c.chop-h.result s.0 s.1.1 c.rung.ensures c.new.ensures c.chop-h.ensures in (
      omega (arith, c.decreases, s.0),
      (
        omega (arith, c.requires.0, pow_more a.level (λ z. omega (arith, z, s.0)), first.ensures.0, first.auto.out),
        (pos_of_ne-zero c.if-less-eq0.false, (omega (arith, s.1.0), same.second_rungs)),
      ),
    )

pub returns : goal.returns
returns t c =
    let a = c.args in
    let s = c.requires.1 in
    let h = c.chop-h.result in
    let first = c.subdivide_in_full-next in
    let second = c.subdivide_in_full in
    let same = step a.level a.rungs.now _ _ _ c.chop-h.result s.0 s.1.1 c.rung.ensures c.new.ensures c.chop-h.ensures in
    stored_more chop_by_rule a.level _ h.first h.second a.out.now first.new.out second.new.out a.at
    first.result second.result (λ z. omega (arith, z, s.0)) same.first same.second first.ensures second.ensures
