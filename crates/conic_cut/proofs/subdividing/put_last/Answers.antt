-- `put_last` meets its contract: plain chops are stored as they are, and the others are cut in full. Assumes nothing.
use mathlib.Core.Path.{◌≡◌, refl, sym, ◌∙◌}
use mathlib.Core.Bool.{Bool, true, false, ◌&&◌, true≢false}
use native.Mathlib.Omega.{arith}
use Rattle.conic.specs.Chop.{chop_by_rule}
use Rattle.conic_cut.proofs.Ladder.{halved_plain}
use Rattle.conic_cut.proofs.Stores.{stored_halves, stored_both}
use Rattle.conic_cut.proofs.subdividing.put_last.Goals as goal

four : (p q r s : Bool) → (((p && q) && r) && s) ≡ true → (p ≡ true) × ((q ≡ true) × ((r ≡ true) × (s ≡ true)))
four true true true s h = (refl, (refl, (refl, h)))
four true true false s h = absurd (true≢false (sym h))
four true false r s h = absurd (true≢false (sym h))
four false q r s h = absurd (true≢false (sym h))

pub returns-then-whole-is_settled : goal.returns-then-whole-is_settled
returns-then-whole-is_settled c =
    let a = c.args in
    let second-settled = c.is_settled-2 in
    let first-settled = c.is_settled in
    let second-whole = c.is_whole-2 in
    let first-whole = c.is_whole in
    let second-lines = c.plain_lines-k in
    let first-lines = c.plain_lines-l in
    let d = c.rung-d in
    let first-halves = c.halves in
    let second-halves = c.halves-then-whole-is_settled in
    let first = c.put_halves-next in
    let second = c.put_halves in
    let t = four first-whole.result second-whole.result first-settled.result second-settled.result c.if-whole-is_settled.true in
    let f = halved_plain 1 a.rungs.now a.h.first d.result first-lines.result first-halves.result (omega arith) c.requires.first_half
    d.ensures first-lines.ensures (sym first-whole.ensures ∙ t.0) (sym first-settled.ensures ∙ t.1.1.0) first-halves.ensures in
    let g = halved_plain 1 a.rungs.now a.h.second d.result second-lines.result second-halves.result (omega arith) c.requires.second_half
    d.ensures second-lines.ensures (sym second-whole.ensures ∙ t.1.0) (sym second-settled.ensures ∙ t.1.1.1) second-halves.ensures in
    stored_both chop_by_rule 1 a.h.first a.h.second a.out.now first.new.out second.new.out a.at first.result second.result
    (stored_halves chop_by_rule 1 a.h.first first-halves.result a.out.now first.new.out a.at first.result refl
    f.first f.second first.ensures)
    (stored_halves chop_by_rule 1 a.h.second second-halves.result first.new.out second.new.out first.result second.result refl
    g.first g.second second.ensures)

pub returns : goal.returns
returns c =
    let a = c.args in
    let first = c.in_full-next in
    let second = c.in_full in
    stored_both chop_by_rule 1 a.h.first a.h.second a.out.now first.new.out second.new.out a.at first.result second.result
    first.ensures second.ensures
