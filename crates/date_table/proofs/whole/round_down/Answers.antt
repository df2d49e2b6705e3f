-- `round_down` meets its contract. The kit's cast asks its tests by other numbers, and `of_bits` shows the two to be one. Assumes nothing.
use Rattle.std.proofs.Common.{T, sym, ◌∙◌, subst, arith}
use lib.Ieee.{of_bits}
use Rattle.date_table.specs.Whole.{in_range}
use Rattle.date_table.proofs.Rounding.{inside, whole_in, whole_out, whole_most, rounded}
use Rattle.date_table.proofs.whole.round_down.Goals as goal

pub truncating_f32_to_u64-requires : goal.truncating_f32_to_u64-requires
unfolding in_range of_bits
truncating_f32_to_u64-requires c = let i = inside c.args.x c.if-x.true in
    record { lower_bound = subst T (sym i.above) tt; upper_bound = subst T (sym i.below) tt }

pub overflow_cast-result : goal.overflow_cast-result
unfolding in_range of_bits
overflow_cast-result c =
    let x = c.args.x in
    let h = c.if-x.true in
    omega (arith, whole_most x h, c.truncating_f32_to_u64.ensures ∙ (inside x h).cut ∙ sym (whole_in x h))

pub returns-then-x : goal.returns-then-x
unfolding in_range of_bits
returns-then-x c =
    let x = c.args.x in
    let h = c.if-x.true in
    let whole = rounded x c.truncating_f32_to_u64.result (c.truncating_f32_to_u64.ensures ∙ (inside x h).cut ∙ sym (whole_in x h)) in
    record { value = whole.0; meaning = whole.1 }

pub returns : goal.returns
unfolding in_range of_bits
returns c =
    let whole = rounded c.args.x 16777217 (sym (whole_out c.args.x c.if-x.false)) in
    record { value = whole.0; meaning = whole.1 }
