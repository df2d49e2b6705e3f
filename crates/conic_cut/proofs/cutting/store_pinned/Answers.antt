-- `store_pinned` meets its contract: three stores, one after another. Assumes nothing.
use Rattle.conic_cut.proofs.Stores.{stored_pins}
use Rattle.conic_cut.proofs.cutting.store_pinned.Goals as goal

pub returns : goal.returns
returns c =
    let a = c.args in
    let many = c.quads.ensures in
    let put = c.put-next in
    let pin = c.pin in
    let last = c.put in
    stored_pins a.level a.c a.out.now put.new.out pin.new.out last.new.out put.result
    put.ensures (rw many at pin.ensures) (rw many at last.ensures.1)
