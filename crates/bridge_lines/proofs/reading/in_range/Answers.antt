-- `reading::in_range` meets its contract: a size that is held above the limit is out of range all the same. Assumes nothing.
use Rattle.bridge_lines.specs.Reading.{limit_of}
use Rattle.bridge_lines.specs.Decimal.{size_of}
use Rattle.bridge_lines.proofs.Sizes.{below, limit_below}
use Rattle.bridge_lines.proofs.reading.in_range.Goals as goal

pub returns : goal.returns
returns c =
    rw (
      c.size.ensures,
      c.limit.ensures,
      c.past_point.ensures,
      below 1000000000 (size_of c.args.w.now) (limit_of c.args.place) (limit_below c.args.place),
    )
