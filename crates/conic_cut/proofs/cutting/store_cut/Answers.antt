-- `store_cut` meets its contract: the points as they are stored, or pinned over these. Assumes nothing.
use Rattle.conic.specs.Chop.{chop_by_rule}
use Rattle.conic_cut.proofs.Stores.{stored_fine, stored_pinned}
use Rattle.conic_cut.proofs.cutting.store_cut.Goals as goal

pub returns-then-all_finite : goal.returns-then-all_finite
returns-then-all_finite c =
    let a = c.args in
    let put = c.put-at in
    let cut = c.cut-end in
    let test = c.all_finite in
    stored_fine chop_by_rule a.level a.c a.out.now put.new.out cut.new.out put.result cut.result
    put.ensures cut.ensures c.requires.room test.result test.ensures c.if-all_finite.true

pub returns : goal.returns
returns c =
    let a = c.args in
    let put = c.put-at in
    let cut = c.cut-end in
    let test = c.all_finite in
    let pin = c.store_pinned in
    stored_pinned chop_by_rule a.level a.c a.out.now put.new.out cut.new.out put.result cut.result
    put.ensures cut.ensures c.requires.room pin.new.out test.result test.ensures c.if-all_finite.false pin.ensures
