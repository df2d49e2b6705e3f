-- `decimal::size` meets its contract: each turn takes one digit of those that are left. Assumes nothing.
use Rattle.std.proofs.Common.{◌≡◌, suc, ◌<◌, ◌≤◌, min, [], ◌∷◌, length, get_or, drop, sym, ◌∙◌, add-one, arith, drop_of_length-le, drop-cons}
use Rattle.bridge_lines.specs.Decimal.{size_after}
use Rattle.bridge_lines.proofs.Sizes.{held}
use Rattle.bridge_lines.proofs.decimal.size.Goals as goal

pub loop-b-preserved : goal.loop-b-preserved
unfolding size_after
loop-b-preserved c =
    let w = c.args.w.now in
    let i = c.loop-b.b-index in
    let n = c.loop-b.n in
    let h : i < length w = omega arith in
    let e : c.with_digit-n.result ≡ min (size_after n (get_or w i 0 ∷ [])) 1000000000 = c.with_digit-n.ensures in
    record {
      held = omega arith;
      left =
          rw (e, add-one)
          (held 1000000000 (size_after n (get_or w i 0 ∷ [])) (drop (suc i) w)
          ∙ (rw (drop-cons w i 0 h) at c.loop-b.invariant.left));
    }

pub returns : goal.returns
unfolding size_after
returns c =
    let e : length c.args.w.now ≤ c.loop-b.b-index = omega arith in
    let f : min c.loop-b.n 1000000000 ≡ c.loop-b.n = omega arith in
    sym f ∙ (rw (drop_of_length-le c.args.w.now e) at c.loop-b.invariant.left)
