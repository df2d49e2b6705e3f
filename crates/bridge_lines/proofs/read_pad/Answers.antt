-- `read_pad` meets its contract: it is read up to its comment, and a long one is told by its length there. Assumes nothing.
use Rattle.std.proofs.Common.{◌≡◌, ℕ, ◌-◌, List, length, take, drop, ap, ◌∙◌, arith, le-ltb, lt-ltb}
use Rattle.bridge_lines.specs.Kinds.{is_of}
use Rattle.bridge_lines.specs.Pad.{pad_line_of, too_long_of, pad_of}
use Rattle.bridge_lines.specs.Words.{is_hash, before, words_of}
use Rattle.bridge_lines.specs.declared.scan.Kind.TheVariants.{Hash}
use Rattle.bridge_lines.proofs.Bytes.{part}
use Rattle.bridge_lines.proofs.read_pad.Goals as goal
use Rattle.bridge_lines.proofs.read_pad.Goals.{After-first-end}

-- what stands before the comment
text : (c : After-first-end) → take (c.first-end.result - 0) (drop 0 c.args.line.now) ≡ before is_hash c.args.line.now
unfolding is_of
text c = part (is_of Hash) c.args.line.now 0 c.first-end.result c.first-end.ensures.1

pub returns-then-text-gt256 : goal.returns-then-text-gt256
unfolding pad_of
returns-then-text-gt256 c =
    let e = text (goal.at.returns-then-text-gt256 c).After-first-end in
    rw (lt-ltb 256 (length (before is_hash c.args.line.now)) (omega (arith, ap length e, c.if-text-gt256.true)))
    (c.too_long.ensures ∙ ap (λ (l : List ℕ). too_long_of (words_of l)) e)

pub returns : goal.returns
unfolding pad_of
returns c =
    let e = text (goal.at.returns c).After-first-end in
    rw (le-ltb 256 (length (before is_hash c.args.line.now)) (omega (arith, ap length e, c.if-text-gt256.false)))
    (c.line.ensures ∙ ap (λ (l : List ℕ). pad_line_of (words_of l)) e)
