-- `store` meets its contract: what the cut wrote is rounded, tested and stored. Assumes nothing.
use Rattle.std.proofs.Common.{◌≡◌, ◌+◌, ◌-◌, ◌*◌, false, List, length, take, replicate, ap, ◌∙◌, arith}
use Rattle.std.proofs.lemmas.Result.{err_from_is_err_and}
use lib.ListN.{length-replicate}
use Rattle.float_laws.specs.Formula.{zero32}
use Rattle.conic.specs.Level.{ceiling}
use Rattle.conic.specs.declared.Conic.{Conic}
use Rattle.conic.specs.Chop.{chop_by_rule}
use Rattle.conic_cut.specs.Cut.{room, cut_buffer}
use Rattle.point.specs.declared.Point.{Point}
use Rattle.point.specs.Numbers.{points_of}
use Rattle.date_table.specs.Making.{rounded_of, cut_of}
use Rattle.date_table.proofs.Answers.{cut_points, spans_most, table_length, stored_made, stored_refused}
use Rattle.date_table.proofs.making.store.Goals as goal
use Rattle.date_table.proofs.making.store.Goals.{After-chop_into_quads_pow2}

-- the points that the cut left
points-are : (c : After-chop_into_quads_pow2) → points_of (take (4 * c.spans-spans.result + 2 - 0) c.chop_into_quads_pow2.new.out)
    ≡ cut_of c.args.level c.args.c
points-are c =
    let n = c.args.level in
    let zeros = replicate (room ceiling) zero32 in
    let spans = c.spans-spans in
    let cut = c.chop_into_quads_pow2 in
    cut_points n spans.result c.args.c zeros cut.new.out c.requires.depth
    (omega (arith, spans_most n c.requires.depth, length-replicate (room ceiling) zero32))
    (cut.ensures.cut_into.buffer ∙ ap (λ (d : Conic). cut_buffer chop_by_rule n d false zeros) c.new-by_both.ensures)
    spans.ensures

pub store_tested-requires-clause-numbers : goal.store_tested-requires-clause-numbers
store_tested-requires-clause-numbers c =
    let there = points-are (goal.at.store_tested-requires-clause-numbers c).After-chop_into_quads_pow2 in
    let long = ap (λ (ps : List Point). length (rounded_of ps)) there ∙ table_length c.args.level c.args.c in
    omega (arith, long, c.spans-spans.ensures)

pub returns-in_err-store_tested : goal.returns-in_err-store_tested
returns-in_err-store_tested c =
    let stored = c.store_tested in
    let t = rounded_of (points_of (take (4 * c.spans-spans.result + 2 - 0) c.chop_into_quads_pow2.new.out)) in
    let exit = err_from_is_err_and c.from_residual.result c.from_residual.ensures.1 in
    let whole = stored_refused c.args.level c.args.c c.args.table.now c.requires.depth c.requires.room t stored.new.table stored.result
    (ap rounded_of (points-are (goal.at.returns-in_err-store_tested c).After-chop_into_quads_pow2)) stored.ensures.value stored.ensures.table _ c.in_err-store_tested.was in
    record { value = rw (exit.1, exit.2) whole.0; table = whole.1 }

pub returns : goal.returns
returns c =
    let spans = c.spans-spans in
    let stored = c.store_tested in
    let t = rounded_of (points_of (take (4 * spans.result + 2 - 0) c.chop_into_quads_pow2.new.out)) in
    let whole = stored_made c.args.level c.args.c c.args.table.now c.requires.depth c.requires.room t stored.new.table stored.result
    (ap rounded_of (points-are (goal.at.returns c).After-chop_into_quads_pow2)) stored.ensures.value stored.ensures.table spans.result spans.ensures c.in_ok-store_tested.was in
    record { value = whole.0; table = whole.1 }

pub slice_bounds-store_tested-end-2 : goal.slice_bounds-store_tested-end-2
slice_bounds-store_tested-end-2 c = omega (arith, spans_most c.args.level c.requires.depth, c.spans-spans.ensures, c.chop_into_quads_pow2.auto.out)
