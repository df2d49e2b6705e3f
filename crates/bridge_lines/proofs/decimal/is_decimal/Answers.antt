-- `decimal::is_decimal` meets its contract: the three parts are those that the definition names. Assumes nothing.
use Rattle.std.proofs.Common.{◌≡◌, ℕ, ◌-◌, List, take, drop}
use Rattle.bridge_lines.specs.Kinds.{is_of}
use Rattle.bridge_lines.specs.Words.{is_point, before}
use Rattle.bridge_lines.specs.declared.scan.Kind.TheVariants.{Point}
use Rattle.bridge_lines.proofs.Bytes.{part}
use Rattle.bridge_lines.proofs.decimal.is_decimal.Goals as goal

pub returns : goal.returns
unfolding is_of
returns c =
    let w : List ℕ = c.args.w.now in
    let e : ℕ = c.first-end.result in
    let p : take (e - 0) (drop 0 w) ≡ before is_point w = part (is_of Point) w 0 e c.first-end.ensures.1 in
    rw (
      c.is_whole.ensures,
      c.is_whole-2.ensures,
      c.is_whole-3.ensures,
      c.past_point.ensures,
      p,
    )
